-- What the instruction table says of a first word.
use Rattle.std.specs.Prelude.{◌≡◌, ℕ, IsTrue, false, Some, slice_get}
use Rattle.avr_spec.specs.declared.instruction.Instr.{Instr}
use Rattle.avr_spec.specs.Table.{Row, table}
use Rattle.avr_spec.specs.Decode.{bits, fits, field_of}
use Rattle.avr_spec.specs.Laws.{has_row}

-- an instruction is what each row that fits the first word says
unfoldable pub IsSaidByRows : ℕ → ℕ → Instr → Type 0
IsSaidByRows first second instr = (index : ℕ) (row : Row) → slice_get table index ≡ Some row → IsTrue (fits row.letters (bits first)) →
    instr ≡ row.instr (field_of row.letters first) second

-- no row fits the first word
unfoldable pub HasNoRow : ℕ → Type 0
HasNoRow first = (index : ℕ) → has_row (slice_get table index) (bits first) ≡ false
