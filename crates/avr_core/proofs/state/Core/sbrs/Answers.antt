use Rattle.std.proofs.Common.{rules, refl}
use Rattle.avr_core.proofs.state.Core.sbrs.Goals as goal

pub returns : goal.returns
returns g c = λ part p h. search (rules, c.reg.ensures part, c.skip.ensures part, refl)
