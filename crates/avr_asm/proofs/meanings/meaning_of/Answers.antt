use Rattle.std.proofs.Common.{ℕ, sym, ap, ◌∙◌}
use Rattle.std.specs.Prelude.{◌∷◌, codes, option_map}
use Rattle.part_spec.specs.Chip.{chip_of}
use Rattle.asm_spec.specs.Reading.{limited, meaning, naming, prefixed}
use Rattle.asm_spec.specs.Tokens.{number, register_number}
use Rattle.avr_asm.specs.declared.forms.Operand.{Operand}
use Rattle.avr_asm.specs.Meanings.{named_told, operand_told}
use Rattle.avr_asm.proofs.meanings.meaning_of.Goals as goal

pub returns-in-Register : goal.returns-in-Register
returns-in-Register c =
    c.register.ensures
    ∙ ap (λ (n : ℕ). option_map (naming (named_told c.in-Register.named) n) (register_number c.args.bytes.now)) c.limit_of.ensures.value
    ∙ sym (ap (λ (o : Operand). meaning (chip_of c.args.part) c.args.letters.now (operand_told o) c.args.bytes.now) c.in-Register.is)

pub returns-in-Displacement : goal.returns-in-Displacement
returns-in-Displacement c =
    c.displaced.ensures
    ∙ ap (λ (n : ℕ). prefixed (c.in-Displacement.pointer ∷ codes "+") (λ more. option_map (limited n) (number more)) c.args.bytes.now)
    c.limit_of-in-Displacement.ensures.value
    ∙ sym (ap (λ (o : Operand). meaning (chip_of c.args.part) c.args.letters.now (operand_told o) c.args.bytes.now) c.in-Displacement.is)
