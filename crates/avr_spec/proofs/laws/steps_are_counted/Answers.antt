use Rattle.avr_spec.proofs.StepLemmas.{step_raises_steps, go_raises_steps}
use Rattle.avr_spec.proofs.laws.steps_are_counted.Goals as goal

pub returns-clause-step : goal.returns-clause-step
returns-clause-step c = step_raises_steps

pub returns-clause-go : goal.returns-clause-go
returns-clause-go c = go_raises_steps
