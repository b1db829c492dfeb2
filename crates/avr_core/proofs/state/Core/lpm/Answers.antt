use Rattle.std.proofs.Common.{rules, refl}
use Rattle.avr_core.proofs.state.Core.lpm.Goals as goal

pub returns : goal.returns
returns g c = λ part p h. search (rules, c.pair-address.ensures part, c.flash_address.ensures.wraps, c.set_reg.ensures part, refl)
