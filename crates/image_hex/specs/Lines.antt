-- The lines of a text.
use Rattle.std.specs.Prelude.{ℕ, ◌==◌, if◌then◌else◌, List, [], ◌∷◌}
use Rattle.std.specs.List.{slice_split}

abbrev pub line_feed : ℕ
line_feed = 0x0a

abbrev pub carriage_return : ℕ
carriage_return = 0x0d

-- a line without the carriage return at its end, if it has one
abbrev pub without_return : List ℕ → List ℕ
without_return [] = []
without_return (byte ∷ []) = if byte == carriage_return then [] else byte ∷ []
without_return (byte ∷ next ∷ line) = byte ∷ without_return (next ∷ line)

-- the lines of a text cut at its line feeds: each part but the last was ended by one, with or without a carriage return before it;
-- the last part had no end, and is a line where it is not empty
abbrev pub lines_cut : List (List ℕ) → List (List ℕ)
lines_cut [] = []
lines_cut ([] ∷ []) = []
lines_cut ((byte ∷ line) ∷ []) = (byte ∷ line) ∷ []
lines_cut (line ∷ next ∷ parts) = without_return line ∷ lines_cut (next ∷ parts)

-- the lines of a text
abbrev pub lines_of : List ℕ → List (List ℕ)
lines_of text = lines_cut (slice_split (λ byte. byte == line_feed) text)
