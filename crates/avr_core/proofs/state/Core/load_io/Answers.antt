use Rattle.std.proofs.Common.{ap, ◌∙◌}
use Rattle.avr_spec.specs.Kept.{Kept}
use Rattle.avr_core.proofs.state.Core.load_io.Goals as goal

pub returns : goal.returns
returns c = λ part p h. c.load.ensures part p.io (ap (λ (k : Kept). k.io) (c.self.view_is ∙ h))
