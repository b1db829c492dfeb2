-- The lines of a text.
use Rattle.std.specs.Prelude.{◌≡◌, ◌≢◌, ℕ, List, [], ◌∷◌, ◌++◌, All}
use Rattle.shell_spec.specs.Words.{line_feed}

-- bytes one behind the other
abbrev pub joined : List (List ℕ) → List ℕ
joined [] = []
joined (line ∷ lines) = line ++ joined lines

-- no line ends among the bytes
abbrev pub IsOpen : List ℕ → Type 0
IsOpen bytes = All (λ byte. byte ≢ line_feed) bytes

-- the bytes are one line with its end
pub record IsEnded (line : List ℕ) : Type 0 where
  pub front : List ℕ
  pub unended : IsOpen front
  pub whole : line ≡ front ++ line_feed ∷ []

-- the text is these lines, each with its end, and then bytes in which no line ends
pub record IsCut (text : List ℕ) (lines : List (List ℕ)) (behind : List ℕ) : Type 0 where
  pub ended : All IsEnded lines
  pub unended : IsOpen behind
  pub whole : text ≡ joined lines ++ behind

-- the lines of a whole text: what stands behind the last end is a line too, if it is not empty
abbrev pub with_last : List (List ℕ) → (behind : List ℕ) → List (List ℕ)
with_last lines [] = lines
with_last lines (byte ∷ behind) = lines ++ (byte ∷ behind) ∷ []
