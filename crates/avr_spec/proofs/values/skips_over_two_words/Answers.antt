use Rattle.std.proofs.Common.{refl}
use Rattle.avr_spec.specs.Step.{step}
use Rattle.avr_spec.specs.Decode.{decode}
use Rattle.avr_spec.specs.Timers.{tick, clocked}
use Rattle.avr_spec.proofs.values.skips_over_two_words.Goals as goal

pub returns-clause-skipped : goal.returns-clause-skipped
unfolding step decode tick clocked
returns-clause-skipped c = refl

pub returns-clause-kept : goal.returns-clause-kept
unfolding step decode tick clocked
returns-clause-kept c = refl
