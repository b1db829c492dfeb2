use Rattle.std.proofs.Common.{ap, ◌∙◌, arith}
use Rattle.ice_frame.specs.Scans.{Kept}
use Rattle.ice_frame.proofs.Scanning.{stands, after_skip}
use Rattle.ice_frame.proofs.scan.Scan.skip.Goals as goal

pub returns : goal.returns
returns c = λ bytes more e p least bytes_more seen most register.
    after_skip bytes more _ _ _ (stands _ bytes (c.self.view_is ∙ e)) p least bytes_more seen (omega (arith, most, ap (λ (k : Kept). k.size) c.self.view_is)) register
