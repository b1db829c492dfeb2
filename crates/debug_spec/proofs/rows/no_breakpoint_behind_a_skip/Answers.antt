use Rattle.std.proofs.Common.{refl}
use Rattle.avr_spec.specs.Step.{step, ahead, go_on}
use Rattle.avr_spec.specs.Decode.{decode}
use Rattle.avr_spec.specs.Timers.{tick, clocked}
use Rattle.debug_spec.proofs.rows.no_breakpoint_behind_a_skip.Goals as goal

pub returns-clause-two_words : goal.returns-clause-two_words
unfolding step ahead go_on decode tick clocked
returns-clause-two_words c = refl

pub returns-clause-one_word : goal.returns-clause-one_word
unfolding step ahead go_on decode tick clocked
returns-clause-one_word c = refl
