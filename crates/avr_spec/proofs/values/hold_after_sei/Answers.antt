use Rattle.std.proofs.Common.{refl}
use Rattle.avr_spec.specs.Step.{step}
use Rattle.avr_spec.specs.Decode.{decode}
use Rattle.avr_spec.specs.Timers.{tick, clocked}
use Rattle.avr_spec.proofs.values.hold_after_sei.Goals as goal

pub returns-clause-sei : goal.returns-clause-sei
unfolding step decode tick clocked
returns-clause-sei c = refl

pub returns-clause-reti : goal.returns-clause-reti
unfolding step decode tick clocked
returns-clause-reti c = refl
