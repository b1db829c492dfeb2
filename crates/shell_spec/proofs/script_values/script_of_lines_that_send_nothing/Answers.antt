use Rattle.std.proofs.Common.{refl}
use Rattle.avr_spec.specs.Step.{step, ahead, go_on}
use Rattle.avr_spec.specs.Decode.{decode}
use Rattle.avr_spec.specs.Timers.{tick, clocked}
use Rattle.shell_spec.proofs.script_values.script_of_lines_that_send_nothing.Goals as goal

pub returns : goal.returns
unfolding step ahead go_on decode tick clocked
returns c = refl
