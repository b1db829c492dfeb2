use Rattle.std.proofs.Common.{rules, refl}
use Rattle.avr_core.proofs.state.Core.bst.Goals as goal

pub returns : goal.returns
returns c = λ part p h. search (rules, c.reg.ensures part, c.set_flag.ensures part, refl)
