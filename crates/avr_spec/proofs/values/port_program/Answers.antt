use Rattle.std.proofs.Common.{refl}
use Rattle.avr_spec.specs.Step.{step}
use Rattle.avr_spec.specs.Decode.{decode}
use Rattle.avr_spec.specs.Timers.{tick, clocked}
use Rattle.avr_spec.proofs.values.port_program.Goals as goal

pub returns-clause-progress : goal.returns-clause-progress
unfolding step decode tick clocked
returns-clause-progress c = refl

pub returns-clause-outputs : goal.returns-clause-outputs
unfolding step decode tick clocked
returns-clause-outputs c = refl
