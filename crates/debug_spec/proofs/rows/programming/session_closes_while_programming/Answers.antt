use Rattle.std.proofs.Common.{refl}
use Rattle.part_spec.specs.Pages.{erased}
use Rattle.avr_spec.specs.Step.{step, ahead, go_on}
use Rattle.avr_spec.specs.Decode.{decode}
use Rattle.avr_spec.specs.Timers.{tick, clocked}
use Rattle.debug_spec.proofs.rows.programming.session_closes_while_programming.Goals as goal

pub returns-clause-signed_off : goal.returns-clause-signed_off
unfolding step ahead go_on decode tick clocked erased
returns-clause-signed_off c = refl

pub returns-clause-line_ended : goal.returns-clause-line_ended
unfolding step ahead go_on decode tick clocked erased
returns-clause-line_ended c = refl

pub returns-clause-restored : goal.returns-clause-restored
unfolding step ahead go_on decode tick clocked erased
returns-clause-restored c = refl

pub returns-clause-not_restored : goal.returns-clause-not_restored
unfolding step ahead go_on decode tick clocked erased
returns-clause-not_restored c = refl
