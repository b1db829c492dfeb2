use Rattle.std.proofs.Common.{refl}
use Rattle.avr_spec.specs.Step.{step, ahead, go_on}
use Rattle.avr_spec.specs.Decode.{decode}
use Rattle.avr_spec.specs.Timers.{tick, clocked}
use Rattle.debug_spec.proofs.rows.clean_sessions_are_real.Goals as goal

pub returns-clause-clean : goal.returns-clause-clean
unfolding step ahead go_on decode tick clocked
returns-clause-clean c = refl

pub returns-clause-unclean : goal.returns-clause-unclean
unfolding step ahead go_on decode tick clocked
returns-clause-unclean c = refl

pub returns-clause-frames : goal.returns-clause-frames
unfolding step ahead go_on decode tick clocked
returns-clause-frames c = refl
