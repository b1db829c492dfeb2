use Rattle.std.proofs.Common.{refl}
use Rattle.avr_spec.specs.Step.{step}
use Rattle.avr_spec.specs.Decode.{decode}
use Rattle.avr_spec.specs.Timers.{tick, clocked}
use Rattle.avr_spec.proofs.values.instructions_at_the_end_of_flash.Goals as goal

pub returns-clause-call : goal.returns-clause-call
unfolding step decode tick clocked
returns-clause-call c = refl

pub returns-clause-jump : goal.returns-clause-jump
unfolding step decode tick clocked
returns-clause-jump c = refl
