use Rattle.std.proofs.Common.{refl}
use Rattle.avr_spec.specs.Step.{step}
use Rattle.avr_spec.specs.Decode.{decode}
use Rattle.avr_spec.specs.Timers.{tick, clocked}
use Rattle.avr_spec.proofs.values.registers.Goals as goal

pub returns-clause-movw : goal.returns-clause-movw
unfolding step decode tick clocked
returns-clause-movw c = refl

pub returns-clause-mul : goal.returns-clause-mul
unfolding step decode tick clocked
returns-clause-mul c = refl

pub returns-clause-adiw : goal.returns-clause-adiw
unfolding step decode tick clocked
returns-clause-adiw c = refl

pub returns-clause-subi : goal.returns-clause-subi
unfolding step decode tick clocked
returns-clause-subi c = refl

pub returns-clause-cpi : goal.returns-clause-cpi
unfolding step decode tick clocked
returns-clause-cpi c = refl
