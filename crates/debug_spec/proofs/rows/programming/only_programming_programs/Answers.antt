use Rattle.std.proofs.Common.{refl}
use Rattle.part_spec.specs.Pages.{erased}
use Rattle.avr_spec.specs.Step.{step, ahead, go_on}
use Rattle.avr_spec.specs.Decode.{decode}
use Rattle.avr_spec.specs.Timers.{tick, clocked}
use Rattle.debug_spec.proofs.rows.programming.only_programming_programs.Goals as goal

pub returns-clause-stopped : goal.returns-clause-stopped
unfolding step ahead go_on decode tick clocked erased
returns-clause-stopped c = refl

pub returns-clause-running : goal.returns-clause-running
unfolding step ahead go_on decode tick clocked erased
returns-clause-running c = refl
