use Rattle.std.proofs.Common.{refl}
use Rattle.avr_spec.specs.Step.{step, ahead, go_on}
use Rattle.avr_spec.specs.Decode.{decode}
use Rattle.avr_spec.specs.Timers.{tick, clocked}
use Rattle.debug_spec.proofs.rows.own_break_stops.Goals as goal

pub returns-clause-own : goal.returns-clause-own
unfolding step ahead go_on decode tick clocked
returns-clause-own c = refl

pub returns-clause-set : goal.returns-clause-set
unfolding step ahead go_on decode tick clocked
returns-clause-set c = refl
