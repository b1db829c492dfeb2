use Rattle.std.proofs.Common.{rules, refl}
use Rattle.avr_core.proofs.state.Core.bld.Goals as goal

pub returns : goal.returns
returns c = λ part p h. search (rules, c.reg.ensures part, c.has_flag.ensures part, c.set_reg.ensures part, refl)
