-- How the texts of `src/text_values.rt` are set up.
use Rattle.std.specs.Prelude.{ℕ, List, [], ◌∷◌, ◌++◌, replicate, Result, Ok, Err}
use Rattle.part_spec.specs.Chip.{Chip, m16}
use Rattle.asm_spec.specs.declared.kind.AsmKind.{AsmKind}
use Rattle.asm_spec.specs.Listing.{erased}
use Rattle.asm_spec.specs.Words.{Assembly, Fault, assembly}

-- a part with 128 words of flash
abbrev pub small : Chip
small = record m16 { pages = 2 }

-- a text of these lines
abbrev pub text_of : List (List ℕ) → List ℕ
text_of [] = []
text_of (line ∷ lines) = line ++ 0x0a ∷ text_of lines

-- these words, and erased ones behind them
abbrev pub first_words : List ℕ → (behind : ℕ) → (used : ℕ) → Result Assembly Fault
first_words words behind used = Ok (record { words = words ++ replicate behind erased; used = used })

-- an error in a line
abbrev pub wrong : (line : ℕ) → AsmKind → Result Assembly Fault
wrong line kind = Err (record { line = line; kind = kind })

-- what the lines give in that part
abbrev pub small_text : List (List ℕ) → Result Assembly Fault
small_text lines = assembly small (text_of lines)
