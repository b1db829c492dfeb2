use Rattle.std.proofs.Common.{refl}
use Rattle.asm_spec.specs.Reading.{reading}
use Rattle.asm_spec.specs.Words.{assembly}
use Rattle.asm_spec.proofs.text_values.texts_that_are_wrong.Goals as goal

pub returns-clause-lines : goal.returns-clause-lines
unfolding reading assembly
returns-clause-lines c = refl

pub returns-clause-labels : goal.returns-clause-labels
unfolding reading assembly
returns-clause-labels c = refl
