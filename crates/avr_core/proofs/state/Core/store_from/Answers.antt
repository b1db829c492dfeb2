use Rattle.std.proofs.Common.{rules, refl}
use Rattle.avr_core.proofs.state.Core.store_from.Goals as goal

pub returns : goal.returns
returns c = λ part p h. search (rules, c.reg-byte.ensures part, c.put_data.ensures part, refl)
