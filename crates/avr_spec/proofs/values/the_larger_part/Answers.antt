use Rattle.std.proofs.Common.{refl}
use Rattle.avr_spec.specs.Step.{step}
use Rattle.avr_spec.specs.Decode.{decode}
use Rattle.avr_spec.specs.Timers.{tick, clocked}
use Rattle.avr_spec.proofs.values.the_larger_part.Goals as goal

pub returns-clause-jump : goal.returns-clause-jump
unfolding step decode tick clocked
returns-clause-jump c = refl

pub returns-clause-jump_on_m16 : goal.returns-clause-jump_on_m16
unfolding step decode tick clocked
returns-clause-jump_on_m16 c = refl

pub returns-clause-wraps : goal.returns-clause-wraps
unfolding step decode tick clocked
returns-clause-wraps c = refl

pub returns-clause-does_not_wrap : goal.returns-clause-does_not_wrap
unfolding step decode tick clocked
returns-clause-does_not_wrap c = refl

pub returns-clause-sram : goal.returns-clause-sram
unfolding step decode tick clocked
returns-clause-sram c = refl
