use Rattle.std.proofs.Common.{rules, refl}
use Rattle.avr_core.proofs.state.Core.cpse.Goals as goal

pub returns : goal.returns
returns g c = λ part p h. search (rules, c.reg.ensures part, c.reg-2.ensures part, c.skip.ensures part, refl)
