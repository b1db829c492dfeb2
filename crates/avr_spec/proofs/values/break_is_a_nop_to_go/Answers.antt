use Rattle.std.proofs.Common.{refl}
use Rattle.avr_spec.specs.Step.{step, go_on, ahead}
use Rattle.avr_spec.specs.Decode.{decode}
use Rattle.avr_spec.specs.Timers.{tick, clocked}
use Rattle.avr_spec.proofs.values.break_is_a_nop_to_go.Goals as goal

pub returns-clause-step : goal.returns-clause-step
unfolding step go_on ahead decode tick clocked
returns-clause-step c = refl

pub returns-clause-go : goal.returns-clause-go
unfolding step go_on ahead decode tick clocked
returns-clause-go c = refl
