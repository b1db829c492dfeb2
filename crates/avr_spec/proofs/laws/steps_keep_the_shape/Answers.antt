use Rattle.avr_spec.proofs.StepShape.{step_keeps_shape, go_keeps_shape}
use Rattle.avr_spec.proofs.laws.steps_keep_the_shape.Goals as goal

pub returns-clause-step : goal.returns-clause-step
returns-clause-step c = step_keeps_shape

pub returns-clause-go : goal.returns-clause-go
returns-clause-go c = go_keeps_shape
