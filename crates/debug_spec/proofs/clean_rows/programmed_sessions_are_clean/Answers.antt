use Rattle.std.proofs.Common.{refl}
use Rattle.part_spec.specs.Pages.{erased}
use Rattle.avr_spec.specs.Step.{step, ahead, go_on}
use Rattle.avr_spec.specs.Decode.{decode}
use Rattle.avr_spec.specs.Timers.{tick, clocked}
use Rattle.debug_spec.proofs.clean_rows.programmed_sessions_are_clean.Goals as goal

pub returns-clause-clean : goal.returns-clause-clean
unfolding erased step ahead go_on decode tick clocked
returns-clause-clean c = refl

pub returns-clause-shown : goal.returns-clause-shown
unfolding erased step ahead go_on decode tick clocked
returns-clause-shown c = refl
