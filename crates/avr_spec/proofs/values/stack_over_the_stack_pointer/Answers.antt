use Rattle.std.proofs.Common.{refl}
use Rattle.avr_spec.specs.Step.{step}
use Rattle.avr_spec.specs.Decode.{decode}
use Rattle.avr_spec.specs.Timers.{tick, clocked}
use Rattle.avr_spec.proofs.values.stack_over_the_stack_pointer.Goals as goal

pub returns-clause-pop : goal.returns-clause-pop
unfolding step decode tick clocked
returns-clause-pop c = refl

pub returns-clause-ret : goal.returns-clause-ret
unfolding step decode tick clocked
returns-clause-ret c = refl
