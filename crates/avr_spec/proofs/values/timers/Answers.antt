use Rattle.std.proofs.Common.{refl}
use Rattle.avr_spec.specs.Timers.{tick, clocked}
use Rattle.avr_spec.proofs.values.timers.Goals as goal

pub returns-clause-reached : goal.returns-clause-reached
unfolding tick clocked
returns-clause-reached c = refl

pub returns-clause-cleared : goal.returns-clause-cleared
unfolding tick clocked
returns-clause-cleared c = refl

pub returns-clause-before_32 : goal.returns-clause-before_32
unfolding tick clocked
returns-clause-before_32 c = refl

pub returns-clause-at_32 : goal.returns-clause-at_32
unfolding tick clocked
returns-clause-at_32 c = refl

pub returns-clause-before_128 : goal.returns-clause-before_128
unfolding tick clocked
returns-clause-before_128 c = refl

pub returns-clause-at_128 : goal.returns-clause-at_128
unfolding tick clocked
returns-clause-at_128 c = refl
