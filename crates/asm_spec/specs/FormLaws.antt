-- The law of the forms.
use Rattle.std.specs.Prelude.{◌≡◌, ℕ, map}
use Rattle.part_spec.specs.Chip.{Chip}
use Rattle.avr_spec.specs.Table.{table}
use Rattle.avr_spec.specs.Text.{text}
use Rattle.asm_spec.specs.Forms.{form_text, forms}

-- row by row of the instruction table, the form printed with the fields of the row is the text of the row's instruction
abbrev pub FormsPrintTexts : Type 0
FormsPrintTexts = (part : Chip) (fields : ℕ → ℕ) (second : ℕ) →
    map (λ row. text part (row.instr fields second)) table ≡ map (form_text part fields second) forms
