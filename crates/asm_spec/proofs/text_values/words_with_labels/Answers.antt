use Rattle.std.proofs.Common.{refl}
use Rattle.asm_spec.specs.Reading.{reading}
use Rattle.asm_spec.specs.Words.{assembly}
use Rattle.asm_spec.proofs.text_values.words_with_labels.Goals as goal

pub returns-clause-ahead : goal.returns-clause-ahead
unfolding reading assembly
returns-clause-ahead c = refl

pub returns-clause-set : goal.returns-clause-set
unfolding reading assembly
returns-clause-set c = refl
