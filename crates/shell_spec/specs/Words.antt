-- The words of a line.
use Rattle.std.specs.Prelude.{ℕ, ◌+◌, ◌-◌, ◌==◌, ◌||◌, Bool, eqb, if◌then◌else◌, List, [], ◌∷◌, length, take}
use Rattle.std.specs.List.{ends_with, slice_split}

abbrev pub line_feed : ℕ
line_feed = 0x0a

abbrev pub carriage_return : ℕ
carriage_return = 0x0d

-- a line without its end: a line feed, with or without a carriage return before it; a line may have no end
abbrev pub without_end : List ℕ → List ℕ
without_end line =
    if ends_with eqb line (carriage_return ∷ line_feed ∷ []) then take (length line - 2) line
    else if ends_with eqb line (line_feed ∷ []) then take (length line - 1) line
    else line

-- a space or a tab
abbrev pub is_blank : ℕ → Bool
is_blank byte = (byte == 0x20) || (byte == 0x09)

-- some bytes that are no blanks, and the column of the first of them, from 1
pub record Word : Type 0 where
  pub column : ℕ
  pub bytes : List ℕ

-- the words among parts with one blank between each two of them, of which the first begins at this column: those that are not empty
abbrev pub words_among : (column : ℕ) → List (List ℕ) → List Word
words_among column [] = []
words_among column ([] ∷ parts) = words_among (column + 1) parts
words_among column ((byte ∷ bytes) ∷ parts) =
    record { column = column; bytes = byte ∷ bytes } ∷ words_among (column + length (byte ∷ bytes) + 1) parts

-- the words of bytes that begin at this column
abbrev pub words_from : (column : ℕ) → List ℕ → List Word
words_from column bytes = words_among column (slice_split is_blank bytes)

-- the words of a line
abbrev pub words_of : (line : List ℕ) → List Word
words_of line = words_from 1 line
