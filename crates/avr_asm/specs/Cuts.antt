-- The lines of a text, cut one by one.
use Rattle.std.specs.Prelude.{◌≡◌, ℕ, ◌<◌, ◌+◌, List, [], ◌∷◌, length, Option, None, Some, option_map}
use Rattle.std.specs.Borrow.{Bor}
use Rattle.asm_spec.specs.Words.{lines_of}

-- the lines of what is left of a text, if a line is left
abbrev pub lines_left : Option (List ℕ) → List (List ℕ)
lines_left None = []
lines_left (Some text) = lines_of text

-- how much is left of a text
abbrev pub left_size : Option (List ℕ) → ℕ
left_size None = 0
left_size (Some text) = 1 + length text

-- what is left, as the code has it
abbrev pub rest_told : Option (Bor (List ℕ)) → Option (List ℕ)
rest_told rest = option_map (λ bytes. bytes.now) rest

-- the first line of a text, and what it leaves
pub record Leaves (text line : List ℕ) (rest : Option (List ℕ)) : Type 0 where
  pub lines : lines_of text ≡ line ∷ lines_left rest
  pub less : left_size rest < left_size (Some text)
