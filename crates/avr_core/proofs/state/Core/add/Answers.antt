use Rattle.std.proofs.Common.{rules, refl}
use Rattle.avr_core.proofs.state.Core.add.Goals as goal

pub returns : goal.returns
returns c = λ part p h. search (rules, c.reg.ensures part, c.reg-2.ensures part, c.sreg.ensures part, c.set_result.ensures part, refl)
