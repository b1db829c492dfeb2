use Rattle.std.proofs.Common.{refl}
use Rattle.avr_spec.specs.Step.{step}
use Rattle.avr_spec.specs.Decode.{decode}
use Rattle.avr_spec.specs.Timers.{tick, clocked}
use Rattle.avr_spec.proofs.values.ordinary_start.Goals as goal

pub returns-clause-reached : goal.returns-clause-reached
unfolding step decode tick clocked
returns-clause-reached c = refl

pub returns-clause-copied : goal.returns-clause-copied
unfolding step decode tick clocked
returns-clause-copied c = refl
