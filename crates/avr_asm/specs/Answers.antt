-- The answers of the assembler.
use Rattle.std.specs.Prelude.{◌≡◌, ℕ, ◌<◌, ◌≤◌, ⊤, List, length, Result, Ok, Err}
use Rattle.part_spec.specs.Chip.{Chip}
use Rattle.asm_spec.specs.Words.{Assembly, Fault, Laid, assembly}
use Rattle.avr_asm.specs.declared.assembler.Assembled.{Assembled}
use Rattle.avr_asm.specs.declared.error.AsmError.{AsmError}
use Rattle.avr_asm.specs.declared.error.AsmError.TheVariants.{Large, At, Memory}
use Rattle.avr_asm.specs.declared.sheet.Sheet.{Sheet}
use Rattle.avr_asm.specs.declared.sheet.Stop.{Stop}
use Rattle.avr_asm.specs.declared.sheet.Stop.TheVariants.{Wrong, Memory as OutOfMemory}
use Rattle.avr_asm.specs.Sheets.{Keeps}

-- the most bytes of a text
abbrev pub most_bytes : ℕ
most_bytes = 1048576

-- what the code answers to what a text gives: its words, or its first error, or that memory ran out
abbrev pub Gives : Result Assembled AsmError → Result Assembly Fault → Type 0
Gives (Ok made) said = said ≡ Ok (record { words = made.words.items; used = made.used })
Gives (Err Large) said = ⊥
Gives (Err (At line kind)) said = said ≡ Err (record { line = line; kind = kind })
Gives (Err Memory) said = ⊤

-- what the assembler answers to a text: that it is too large exactly where it is, else what it gives
abbrev pub Answers : Chip → (text : List ℕ) → Result Assembled AsmError → Type 0
Answers part text (Ok made) = (length text ≤ most_bytes) × Gives (Ok made) (assembly part text)
Answers part text (Err Large) = most_bytes < length text
Answers part text (Err (At line kind)) = (length text ≤ most_bytes) × Gives (Err (At line kind)) (assembly part text)
Answers part text (Err Memory) = length text ≤ most_bytes

-- why a text is refused, by why a line of it is
abbrev pub error_of : (line : ℕ) → Stop → AsmError
error_of line (Wrong kind) = At line kind
error_of line OutOfMemory = Memory

-- the code's sheet, or its answer, to what the lines of a text lay out
abbrev pub LaysOut : Chip → Result Sheet AsmError → Result Laid Fault → Type 0
LaysOut part (Ok sheet) said = (laid : Laid) × (said ≡ Ok laid) × Keeps part sheet laid
LaysOut part (Err Large) said = ⊥
LaysOut part (Err (At line kind)) said = said ≡ Err (record { line = line; kind = kind })
LaysOut part (Err Memory) said = ⊤
