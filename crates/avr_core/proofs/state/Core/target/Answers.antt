use Rattle.std.proofs.Common.{rules, refl}
use Rattle.avr_core.proofs.state.Core.target.Goals as goal

pub returns-clause-target : goal.returns-clause-target
returns-clause-target g c = λ part p h. search (rules, c.next_word-second.ensures.word part, c.next_word-second.ensures.past part, refl)
