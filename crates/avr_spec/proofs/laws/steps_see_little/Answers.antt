use Rattle.avr_spec.proofs.StepLemmas.{step_sees_little, ahead_sees_one_word}
use Rattle.avr_spec.proofs.laws.steps_see_little.Goals as goal

pub returns-clause-step : goal.returns-clause-step
returns-clause-step c = step_sees_little

pub returns-clause-ahead : goal.returns-clause-ahead
returns-clause-ahead c = ahead_sees_one_word
