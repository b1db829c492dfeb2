use Rattle.std.proofs.Common.{refl}
use Rattle.avr_spec.specs.Step.{step, ahead, go_on}
use Rattle.avr_spec.specs.Decode.{decode}
use Rattle.avr_spec.specs.Timers.{tick, clocked}
use Rattle.debug_spec.proofs.clean_rows.interrupts_are_clean.Goals as goal

pub returns-clause-overflow : goal.returns-clause-overflow
unfolding step ahead go_on decode tick clocked
returns-clause-overflow c = refl

pub returns-clause-compare : goal.returns-clause-compare
unfolding step ahead go_on decode tick clocked
returns-clause-compare c = refl
