use Rattle.std.proofs.Common.{rules, refl}
use Rattle.avr_core.proofs.state.Core.adiw.Goals as goal

pub returns : goal.returns
returns c = λ part p h. search (rules, c.pair.ensures part, c.sreg.ensures part, c.set_word_result.ensures part, refl)
