use Rattle.std.proofs.Common.{refl}
use Rattle.part_spec.specs.Pages.{erased}
use Rattle.avr_spec.specs.Step.{step, ahead, go_on}
use Rattle.avr_spec.specs.Decode.{decode}
use Rattle.avr_spec.specs.Timers.{tick, clocked}
use Rattle.debug_spec.proofs.rows.programming.pages_are_programmed_in_order.Goals as goal

pub returns-clause-one_page : goal.returns-clause-one_page
unfolding step ahead go_on decode tick clocked erased
returns-clause-one_page c = refl

pub returns-clause-second_fails : goal.returns-clause-second_fails
unfolding step ahead go_on decode tick clocked erased
returns-clause-second_fails c = refl

pub returns-clause-first_fails : goal.returns-clause-first_fails
unfolding step ahead go_on decode tick clocked erased
returns-clause-first_fails c = refl
