use Rattle.std.proofs.Common.{refl}
use Rattle.part_spec.specs.Pages.{erased}
use Rattle.avr_spec.specs.Step.{step, ahead, go_on}
use Rattle.avr_spec.specs.Decode.{decode}
use Rattle.avr_spec.specs.Timers.{tick, clocked}
use Rattle.debug_spec.proofs.rows.programming.entering_clears_breakpoints.Goals as goal

pub returns-clause-planted : goal.returns-clause-planted
unfolding step ahead go_on decode tick clocked erased
returns-clause-planted c = refl

pub returns-clause-comparators : goal.returns-clause-comparators
unfolding step ahead go_on decode tick clocked erased
returns-clause-comparators c = refl
