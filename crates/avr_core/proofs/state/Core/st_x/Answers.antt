use Rattle.std.proofs.Common.{rules, refl}
use Rattle.avr_core.proofs.state.Core.st_x.Goals as goal

pub returns : goal.returns
returns c = λ part p h. search (rules, c.pair-address.ensures part, c.store_from.ensures part, refl)
