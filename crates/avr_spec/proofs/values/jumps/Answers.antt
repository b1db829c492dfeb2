use Rattle.std.proofs.Common.{refl}
use Rattle.avr_spec.specs.Step.{step}
use Rattle.avr_spec.specs.Decode.{decode}
use Rattle.avr_spec.specs.Timers.{tick, clocked}
use Rattle.avr_spec.proofs.values.jumps.Goals as goal

pub returns-clause-rjmp : goal.returns-clause-rjmp
unfolding step decode tick clocked
returns-clause-rjmp c = refl

pub returns-clause-taken : goal.returns-clause-taken
unfolding step decode tick clocked
returns-clause-taken c = refl

pub returns-clause-not_taken : goal.returns-clause-not_taken
unfolding step decode tick clocked
returns-clause-not_taken c = refl

pub returns-clause-ijmp : goal.returns-clause-ijmp
unfolding step decode tick clocked
returns-clause-ijmp c = refl

pub returns-clause-rcall : goal.returns-clause-rcall
unfolding step decode tick clocked
returns-clause-rcall c = refl
