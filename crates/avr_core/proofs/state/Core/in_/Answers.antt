use Rattle.std.proofs.Common.{rules, refl}
use Rattle.avr_core.proofs.state.Core.in_.Goals as goal

pub returns : goal.returns
returns c = λ part p h. search (rules, c.load_io-byte.ensures part, c.set_reg.ensures part, refl)
