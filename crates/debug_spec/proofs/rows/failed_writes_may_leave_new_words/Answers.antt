use Rattle.std.proofs.Common.{refl}
use Rattle.avr_spec.specs.Step.{step, ahead, go_on}
use Rattle.avr_spec.specs.Decode.{decode}
use Rattle.avr_spec.specs.Timers.{tick, clocked}
use Rattle.debug_spec.proofs.rows.failed_writes_may_leave_new_words.Goals as goal

pub returns-clause-write_2 : goal.returns-clause-write_2
unfolding step ahead go_on decode tick clocked
returns-clause-write_2 c = refl

pub returns-clause-write_3 : goal.returns-clause-write_3
unfolding step ahead go_on decode tick clocked
returns-clause-write_3 c = refl

pub returns-clause-write_4 : goal.returns-clause-write_4
unfolding step ahead go_on decode tick clocked
returns-clause-write_4 c = refl
