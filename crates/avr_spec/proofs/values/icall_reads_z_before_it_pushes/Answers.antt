use Rattle.std.proofs.Common.{refl}
use Rattle.avr_spec.specs.Step.{step}
use Rattle.avr_spec.specs.Decode.{decode}
use Rattle.avr_spec.specs.Timers.{tick, clocked}
use Rattle.avr_spec.proofs.values.icall_reads_z_before_it_pushes.Goals as goal

pub returns : goal.returns
unfolding step decode tick clocked
returns c = refl
