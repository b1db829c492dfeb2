-- What the code's words of a text stand for.
use Rattle.std.specs.Prelude.{◌≡◌, ℕ, ◌+◌, List, [], ◌∷◌, slice_set, Result, Ok, Err}
use Rattle.part_spec.specs.Chip.{Chip, words_of}
use Rattle.asm_spec.specs.declared.kind.AsmKind.{AsmKind}
use Rattle.asm_spec.specs.Forms.{Operand}
use Rattle.asm_spec.specs.Words.{Fault, Fields, Piece, used_by, with_value, words_from}
use Rattle.avr_asm.specs.declared.encodings.Piece.{Piece as HeldPiece}
use Rattle.avr_asm.specs.declared.encodings.Piece.TheVariants.{One, Two}
use Rattle.avr_asm.specs.declared.error.AsmError.{AsmError}
use Rattle.avr_asm.specs.declared.error.AsmError.TheVariants.{Large, At, Memory}
use Rattle.avr_asm.specs.declared.fields.Setting.{Setting}
use Rattle.avr_asm.specs.declared.fields.Settings.{Settings}
use Rattle.avr_asm.specs.Encodings.{fields_told, set_by}

-- the words of a piece
abbrev pub piece_told : HeldPiece → List ℕ
piece_told (One word) = word ∷ []
piece_told (Two first second) = first ∷ second ∷ []

abbrev pub piece_answer : Result HeldPiece AsmKind → Result (List ℕ) AsmKind
piece_answer (Ok piece) = Ok (piece_told piece)
piece_answer (Err kind) = Err kind

-- the fields that operands set
abbrev pub fields_answer : Result Settings AsmKind → Result Fields AsmKind
fields_answer (Ok settings) = Ok (fields_told settings)
fields_answer (Err kind) = Err kind

-- the code's answer sets an operand's field to its value, if it has one
abbrev pub SetsAs : Operand → Result Setting AsmKind → Result ℕ AsmKind → Type 0
SetsAs operand (Ok setting) said = (n : ℕ) × (said ≡ Ok n) × ((fields : Fields) → set_by setting fields ≡ with_value operand n fields)
SetsAs operand (Err kind) said = said ≡ Err kind

-- words with those of a piece from a place on
abbrev pub with_piece : (place : ℕ) → (piece words : List ℕ) → List ℕ
with_piece place [] words = words
with_piece place (word ∷ piece) words = with_piece (place + 1) piece (slice_set words place word)

-- the words of the flash have those of the pieces, and how many there are up to the highest place given
pub record IsFilled (part : Chip) (used : ℕ) (words : List ℕ) (said : Result (List Piece) Fault) : Type 0 where
  pub pieces : List Piece
  pub are : said ≡ Ok pieces
  pub words_are : words ≡ words_from pieces 0 (words_of part)
  pub used_are : used ≡ used_by pieces

-- the code's answer to the pieces of a text
abbrev pub Fills : Chip → Result ℕ AsmError → List ℕ → Result (List Piece) Fault → Type 0
Fills part (Ok used) words said = IsFilled part used words said
Fills part (Err Large) words said = ⊥
Fills part (Err (At line kind)) words said = said ≡ Err (record { line = line; kind = kind })
Fills part (Err Memory) words said = ⊥
