use Rattle.std.proofs.Common.{refl}
use Rattle.avr_spec.specs.Step.{step, ahead, go_on}
use Rattle.avr_spec.specs.Decode.{decode}
use Rattle.avr_spec.specs.Timers.{tick, clocked}
use Rattle.debug_spec.proofs.number_rows.counts_are_modulo_two_to_the_64.Goals as goal

pub returns-clause-one_cycle : goal.returns-clause-one_cycle
unfolding step ahead go_on decode tick clocked
returns-clause-one_cycle c = refl

pub returns-clause-two_cycles : goal.returns-clause-two_cycles
unfolding step ahead go_on decode tick clocked
returns-clause-two_cycles c = refl

pub returns-clause-outputs : goal.returns-clause-outputs
returns-clause-outputs c outputs = refl

pub returns-clause-writes : goal.returns-clause-writes
returns-clause-writes c s = refl
