use Rattle.std.proofs.Common.{refl}
use Rattle.line_spec.specs.Check.{check}
use Rattle.ice_frame.specs.Scans.{scan_of}
use Rattle.ice_frame.proofs.scan.Scan.start.Goals as goal

pub returns : goal.returns
unfolding scan_of check
returns c = refl
