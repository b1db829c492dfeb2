use Rattle.std.proofs.Common.{refl}
use Rattle.avr_spec.specs.Step.{step}
use Rattle.avr_spec.specs.Decode.{decode}
use Rattle.avr_spec.specs.Timers.{tick, clocked}
use Rattle.avr_spec.proofs.values.loads_and_stores.Goals as goal

pub returns-clause-ldd : goal.returns-clause-ldd
unfolding step decode tick clocked
returns-clause-ldd c = refl

pub returns-clause-std : goal.returns-clause-std
unfolding step decode tick clocked
returns-clause-std c = refl

pub returns-clause-lds : goal.returns-clause-lds
unfolding step decode tick clocked
returns-clause-lds c = refl

pub returns-clause-sts : goal.returns-clause-sts
unfolding step decode tick clocked
returns-clause-sts c = refl

pub returns-clause-ld : goal.returns-clause-ld
unfolding step decode tick clocked
returns-clause-ld c = refl

pub returns-clause-st : goal.returns-clause-st
unfolding step decode tick clocked
returns-clause-st c = refl

pub returns-clause-push : goal.returns-clause-push
unfolding step decode tick clocked
returns-clause-push c = refl

pub returns-clause-lpm : goal.returns-clause-lpm
unfolding step decode tick clocked
returns-clause-lpm c = refl

pub returns-clause-lpm_wraps : goal.returns-clause-lpm_wraps
unfolding step decode tick clocked
returns-clause-lpm_wraps c = refl
