use Rattle.std.proofs.Common.{rules, refl}
use Rattle.avr_core.proofs.state.Core.movw.Goals as goal

pub returns : goal.returns
returns c = λ part p h. search (rules, c.pair-word.ensures part, c.set_pair.ensures part, refl)
