use Rattle.std.proofs.Common.{refl}
use Rattle.asm_spec.specs.Reading.{reading}
use Rattle.asm_spec.specs.Words.{assembly}
use Rattle.asm_spec.proofs.text_values.words_of_aliases.Goals as goal

pub returns : goal.returns
unfolding reading assembly
returns c = refl
