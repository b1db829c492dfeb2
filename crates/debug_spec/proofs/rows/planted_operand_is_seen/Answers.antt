use Rattle.std.proofs.Common.{refl}
use Rattle.avr_spec.specs.Step.{step, ahead, go_on}
use Rattle.avr_spec.specs.Decode.{decode}
use Rattle.avr_spec.specs.Timers.{tick, clocked}
use Rattle.debug_spec.proofs.rows.planted_operand_is_seen.Goals as goal

pub returns-clause-patched : goal.returns-clause-patched
unfolding step ahead go_on decode tick clocked
returns-clause-patched c = refl

pub returns-clause-plain : goal.returns-clause-plain
unfolding step ahead go_on decode tick clocked
returns-clause-plain c = refl

pub returns-clause-not_clean : goal.returns-clause-not_clean
unfolding step ahead go_on decode tick clocked
returns-clause-not_clean c = refl
