use Rattle.std.proofs.Common.{refl}
use Rattle.avr_spec.specs.Step.{step}
use Rattle.avr_spec.specs.Decode.{decode}
use Rattle.avr_spec.specs.Timers.{tick, clocked}
use Rattle.avr_spec.proofs.values.pointers_that_move_under_a_register.Goals as goal

pub returns-clause-store : goal.returns-clause-store
unfolding step decode tick clocked
returns-clause-store c = refl

pub returns-clause-load : goal.returns-clause-load
unfolding step decode tick clocked
returns-clause-load c = refl
