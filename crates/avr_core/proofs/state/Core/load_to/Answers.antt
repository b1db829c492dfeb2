use Rattle.std.proofs.Common.{rules, refl}
use Rattle.avr_core.proofs.state.Core.load_to.Goals as goal

pub returns : goal.returns
returns c = λ part p h. search (rules, c.data_at-byte.ensures part, c.set_reg.ensures part, refl)
