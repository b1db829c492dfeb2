-- Programs written as records.
use Rattle.std.specs.Prelude.{◌≤◌, ℕ, ◌+◌, ◌-◌, ◌/◌, ◌%◌, List, [], ◌∷◌, ◌++◌, length, sum}
use Rattle.hex.specs.Hex.{IsBytes, encode_upper}
use Rattle.image_hex.specs.Lines.{line_feed}
use Rattle.image_hex.specs.Records.{colon}

-- the byte that brings the sum to 0 modulo 256
abbrev pub sum_byte : List ℕ → ℕ
sum_byte bytes = (256 - sum bytes % 256) % 256

-- the line of a record
abbrev pub record_line : List ℕ → List ℕ
record_line bytes = colon ∷ encode_upper (bytes ++ sum_byte bytes ∷ [])

-- the bytes of a record of type 00, but for its sum
abbrev pub data_record : (address : ℕ) → List ℕ → List ℕ
data_record address bytes = length bytes ∷ address / 256 ∷ address % 256 ∷ 0 ∷ bytes

-- the text of a program that is cut into pieces: a record for each, from an address on, and one that ends the image
abbrev pub text_of : List (List ℕ) → (address : ℕ) → List ℕ
text_of [] address = record_line (0 ∷ 0 ∷ 0 ∷ 1 ∷ []) ++ line_feed ∷ []
text_of (piece ∷ pieces) address = record_line (data_record address piece) ++ line_feed ∷ text_of pieces (address + length piece)

-- the program of the pieces
abbrev pub joined : List (List ℕ) → List ℕ
joined [] = []
joined (piece ∷ pieces) = piece ++ joined pieces

-- each piece is of bytes, and fits a record
abbrev pub ArePieces : List (List ℕ) → Type 0
ArePieces [] = Unit {0}
ArePieces (piece ∷ pieces) = (length piece ≤ 255) × IsBytes piece × ArePieces pieces
