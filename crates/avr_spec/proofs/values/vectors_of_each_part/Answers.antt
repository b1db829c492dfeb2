use Rattle.std.proofs.Common.{refl}
use Rattle.avr_spec.specs.Step.{step}
use Rattle.avr_spec.specs.Decode.{decode}
use Rattle.avr_spec.specs.Timers.{tick, clocked}
use Rattle.avr_spec.proofs.values.vectors_of_each_part.Goals as goal

pub returns-clause-m16 : goal.returns-clause-m16
unfolding step decode tick clocked
returns-clause-m16 c = refl

pub returns-clause-m32 : goal.returns-clause-m32
unfolding step decode tick clocked
returns-clause-m32 c = refl

pub returns-clause-first_on_m32 : goal.returns-clause-first_on_m32
unfolding step decode tick clocked
returns-clause-first_on_m32 c = refl

pub returns-clause-taken_on_m32 : goal.returns-clause-taken_on_m32
unfolding step decode tick clocked
returns-clause-taken_on_m32 c = refl
