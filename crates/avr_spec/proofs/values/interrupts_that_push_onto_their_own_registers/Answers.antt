use Rattle.std.proofs.Common.{refl}
use Rattle.avr_spec.specs.Step.{step}
use Rattle.avr_spec.specs.Decode.{decode}
use Rattle.avr_spec.specs.Timers.{tick, clocked}
use Rattle.avr_spec.proofs.values.interrupts_that_push_onto_their_own_registers.Goals as goal

pub returns-clause-status : goal.returns-clause-status
unfolding step decode tick clocked
returns-clause-status c = refl

pub returns-clause-flags : goal.returns-clause-flags
unfolding step decode tick clocked
returns-clause-flags c = refl

pub returns-clause-masks : goal.returns-clause-masks
unfolding step decode tick clocked
returns-clause-masks c = refl
