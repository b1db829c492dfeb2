use Rattle.std.proofs.Common.{refl}
use Rattle.avr_spec.specs.Step.{step, ahead, go_on}
use Rattle.avr_spec.specs.Decode.{decode}
use Rattle.avr_spec.specs.Timers.{tick, clocked}
use Rattle.debug_spec.proofs.rows.each_write_may_fail.Goals as goal

pub returns-clause-write_2 : goal.returns-clause-write_2
unfolding step ahead go_on decode tick clocked
returns-clause-write_2 c = refl

pub returns-clause-write_3 : goal.returns-clause-write_3
unfolding step ahead go_on decode tick clocked
returns-clause-write_3 c = refl

pub returns-clause-write_4 : goal.returns-clause-write_4
unfolding step ahead go_on decode tick clocked
returns-clause-write_4 c = refl

pub returns-clause-write_5 : goal.returns-clause-write_5
unfolding step ahead go_on decode tick clocked
returns-clause-write_5 c = refl

pub returns-clause-not_restored : goal.returns-clause-not_restored
unfolding step ahead go_on decode tick clocked
returns-clause-not_restored c = refl
