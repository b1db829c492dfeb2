use Rattle.std.proofs.Common.{refl}
use Rattle.avr_spec.specs.Step.{step}
use Rattle.avr_spec.specs.Decode.{decode}
use Rattle.avr_spec.specs.Timers.{tick, clocked}
use Rattle.avr_spec.proofs.values.lower_vector_first.Goals as goal

pub returns-clause-pending : goal.returns-clause-pending
unfolding step decode tick clocked
returns-clause-pending c = refl

pub returns-clause-taken : goal.returns-clause-taken
unfolding step decode tick clocked
returns-clause-taken c = refl
