use Rattle.std.proofs.Common.{refl}
use Rattle.avr_spec.specs.Step.{step, ahead, go_on}
use Rattle.avr_spec.specs.Decode.{decode}
use Rattle.avr_spec.specs.Timers.{tick, clocked}
use Rattle.debug_spec.proofs.clean_rows.met_breakpoints_are_clean.Goals as goal

pub returns-clause-planted : goal.returns-clause-planted
unfolding step ahead go_on decode tick clocked
returns-clause-planted c = refl

pub returns-clause-own : goal.returns-clause-own
unfolding step ahead go_on decode tick clocked
returns-clause-own c = refl
