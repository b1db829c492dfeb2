-- Numbers in words, and STOPS, the numbers of steps after which the runs of a session are stopped.
use Rattle.std.specs.Prelude.{◌≡◌, ℕ, ◌+◌, ◌-◌, ◌*◌, ◌<◌, ◌≤◌, ◌==◌, List, length, slice_index, fold, map, All}
use Rattle.std.specs.List.{slice_split}

-- the number that decimal digits spell, the highest first
abbrev pub number_of : List ℕ → ℕ
number_of digits = fold (λ n digit. 10 * n + (digit - 48)) 0 digits

-- a number from the least to the most: decimal digits, with no zero ahead of others
pub record IsNumber (least most : ℕ) (text : List ℕ) : Type 0 where
  pub some : 0 < length text
  pub digits : All (λ c. (48 ≤ c) × (c ≤ 57)) text
  pub leading : 1 < length text → slice_index text 0 ≡ 48 → ⊥
  pub from_least : least ≤ number_of text
  pub to_most : number_of text ≤ most

-- a number of STOPS
abbrev pub IsStop : List ℕ → Type 0
IsStop text = IsNumber 1 100000000 text

-- the pieces of a text between its commas
abbrev pub pieces_of : List ℕ → List (List ℕ)
pieces_of text = slice_split (λ byte. byte == 44) text

-- one to 64 numbers, separated by commas
pub record IsStops (text : List ℕ) : Type 0 where
  pub count : length (pieces_of text) ≤ 64
  pub each : All IsStop (pieces_of text)

-- the numbers of such a text
abbrev pub numbers_of : List ℕ → List ℕ
numbers_of text = map number_of (pieces_of text)
