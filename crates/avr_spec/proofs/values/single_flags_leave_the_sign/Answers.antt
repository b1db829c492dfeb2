use Rattle.std.proofs.Common.{refl}
use Rattle.avr_spec.specs.Step.{step}
use Rattle.avr_spec.specs.Decode.{decode}
use Rattle.avr_spec.specs.Timers.{tick, clocked}
use Rattle.avr_spec.proofs.values.single_flags_leave_the_sign.Goals as goal

pub returns-clause-set_n : goal.returns-clause-set_n
unfolding step decode tick clocked
returns-clause-set_n c = refl

pub returns-clause-set_v : goal.returns-clause-set_v
unfolding step decode tick clocked
returns-clause-set_v c = refl

pub returns-clause-clear_n : goal.returns-clause-clear_n
unfolding step decode tick clocked
returns-clause-clear_n c = refl

pub returns-clause-clear_v : goal.returns-clause-clear_v
unfolding step decode tick clocked
returns-clause-clear_v c = refl
