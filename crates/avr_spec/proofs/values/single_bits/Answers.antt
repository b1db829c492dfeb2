use Rattle.std.proofs.Common.{refl}
use Rattle.avr_spec.specs.Step.{step}
use Rattle.avr_spec.specs.Decode.{decode}
use Rattle.avr_spec.specs.Timers.{tick, clocked}
use Rattle.avr_spec.proofs.values.single_bits.Goals as goal

pub returns-clause-bst : goal.returns-clause-bst
unfolding step decode tick clocked
returns-clause-bst c = refl

pub returns-clause-swap : goal.returns-clause-swap
unfolding step decode tick clocked
returns-clause-swap c = refl

pub returns-clause-sbi : goal.returns-clause-sbi
unfolding step decode tick clocked
returns-clause-sbi c = refl

pub returns-clause-cbi : goal.returns-clause-cbi
unfolding step decode tick clocked
returns-clause-cbi c = refl

pub returns-clause-sbis : goal.returns-clause-sbis
unfolding step decode tick clocked
returns-clause-sbis c = refl

pub returns-clause-sbic : goal.returns-clause-sbic
unfolding step decode tick clocked
returns-clause-sbic c = refl

pub returns-clause-sbrs : goal.returns-clause-sbrs
unfolding step decode tick clocked
returns-clause-sbrs c = refl

pub returns-clause-sbrc : goal.returns-clause-sbrc
unfolding step decode tick clocked
returns-clause-sbrc c = refl

pub returns-clause-cpse : goal.returns-clause-cpse
unfolding step decode tick clocked
returns-clause-cpse c = refl
