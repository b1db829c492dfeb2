use Rattle.std.proofs.Common.{rules, refl}
use Rattle.avr_core.proofs.state.Core.out_.Goals as goal

pub returns : goal.returns
returns c = λ part p h. search (rules, c.reg-byte.ensures part, c.store_io.ensures part, refl)
