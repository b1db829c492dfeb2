use Rattle.std.proofs.Common.{refl}
use Rattle.avr_spec.specs.Step.{step, ahead, go_on}
use Rattle.avr_spec.specs.Decode.{decode}
use Rattle.avr_spec.specs.Timers.{tick, clocked}
use Rattle.debug_spec.proofs.rows.running_target_answers_little.Goals as goal

pub returns-clause-answers : goal.returns-clause-answers
unfolding step ahead go_on decode tick clocked
returns-clause-answers c = refl

pub returns-clause-line_end : goal.returns-clause-line_end
unfolding step ahead go_on decode tick clocked
returns-clause-line_end c = refl
