use Rattle.std.proofs.Common.{refl}
use Rattle.avr_spec.specs.Step.{step, ahead, go_on}
use Rattle.avr_spec.specs.Decode.{decode}
use Rattle.avr_spec.specs.Timers.{tick, clocked}
use Rattle.debug_spec.proofs.number_rows.breakpoints_are_64.Goals as goal

pub returns : goal.returns
unfolding step ahead go_on decode tick clocked
returns c = refl
