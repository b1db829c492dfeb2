use Rattle.std.proofs.Common.{refl}
use Rattle.avr_spec.specs.Step.{step, ahead, go_on}
use Rattle.avr_spec.specs.Decode.{decode}
use Rattle.avr_spec.specs.Timers.{tick, clocked}
use Rattle.debug_spec.proofs.clean_rows.reads_beside_a_breakpoint_are_clean.Goals as goal

pub returns-clause-to_r0 : goal.returns-clause-to_r0
unfolding step ahead go_on decode tick clocked
returns-clause-to_r0 c = refl

pub returns-clause-by_z : goal.returns-clause-by_z
unfolding step ahead go_on decode tick clocked
returns-clause-by_z c = refl

pub returns-clause-by_z_and_one_more : goal.returns-clause-by_z_and_one_more
unfolding step ahead go_on decode tick clocked
returns-clause-by_z_and_one_more c = refl
