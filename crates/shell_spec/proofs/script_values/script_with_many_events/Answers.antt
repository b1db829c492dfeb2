use Rattle.std.proofs.Common.{refl}
use Rattle.avr_spec.specs.Step.{step, ahead, go_on}
use Rattle.avr_spec.specs.Decode.{decode}
use Rattle.avr_spec.specs.Timers.{tick, clocked}
use Rattle.shell_spec.proofs.script_values.script_with_many_events.Goals as goal

pub returns-clause-kept : goal.returns-clause-kept
unfolding step ahead go_on decode tick clocked
returns-clause-kept c = refl

pub returns-clause-full : goal.returns-clause-full
unfolding step ahead go_on decode tick clocked
returns-clause-full c = refl
