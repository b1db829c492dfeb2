use Rattle.std.proofs.Common.{refl}
use Rattle.part_spec.specs.Pages.{erased}
use Rattle.avr_spec.specs.Step.{step, ahead, go_on}
use Rattle.avr_spec.specs.Decode.{decode}
use Rattle.avr_spec.specs.Timers.{tick, clocked}
use Rattle.debug_spec.proofs.rows.programming.pages_are_whole.Goals as goal

pub returns-clause-writes : goal.returns-clause-writes
unfolding step ahead go_on decode tick clocked erased
returns-clause-writes c = refl

pub returns-clause-erasing : goal.returns-clause-erasing
unfolding step ahead go_on decode tick clocked erased
returns-clause-erasing c = refl
