use Rattle.std.proofs.Common.{rules, refl}
use Rattle.avr_core.proofs.state.Core.store_displaced.Goals as goal

pub returns : goal.returns
returns c = λ part p h. search (rules, c.pair.ensures part, c.store_from.ensures part, refl)
