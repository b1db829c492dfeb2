use Rattle.std.proofs.Common.{refl}
use Rattle.avr_spec.specs.Text.{text}
use Rattle.asm_spec.proofs.laws.forms_are_texts.Goals as goal

pub returns : goal.returns
unfolding text
returns c = λ part fields second. refl
