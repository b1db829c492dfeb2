-- The rule of the stop word, which holds at every moment: its number, and each number that a looker saw, is 0 or was raised.
use Rattle.std.specs.Prelude.{◌≡◌, ℕ, ◌+◌, ◌%◌, ◌^◌, List, [], ◌∷◌, ◌++◌, ◌⊎◌, All, Contains}
use mathlib.Core.Option.{some}
use lib.ListN.{get_elem?}
use Rattle.atomic_table.specs.Table.{State}
use Rattle.ice_inbox.specs.declared.stop_word.Side.{Side}
use Rattle.ice_inbox.specs.declared.stop_word.Side.TheVariants.{Raiser, Looker, Spent}

-- the number is the one at the start, or it was raised
abbrev pub IsRaised : List ℕ → ℕ → Type 0
IsRaised raised number = (number ≡ 0) ⊎ Contains raised number

-- there is one raiser, which knows what was raised; it and the lookers saw nothing else
abbrev pub Fits : ℕ → List ℕ → ℕ → Side → Type 0
Fits raiser raised seat (Raiser numbers kept) = (seat ≡ raiser) × (numbers ≡ raised) × All (IsRaised raised) kept
Fits raiser raised seat (Looker seen loads) = IsRaised raised seen
Fits raiser raised seat Spent = Unit {0}

pub record Standing {S : Type 0} (state : State S Side) : Type 0 where
  pub number : ℕ
  pub words : state.words ≡ number ∷ []
  pub raiser : ℕ
  pub raised : List ℕ
  pub told : IsRaised raised number
  pub each : (seat : ℕ) (side : Side) → get_elem? state.views seat ≡ some side → Fits raiser raised seat side

-- raise: the number is added to those raised
abbrev pub raised_more : Side → ℕ → Side
raised_more (Raiser raised kept) number = Raiser (raised ++ number ∷ []) kept
raised_more (Looker seen loads) number = Looker seen loads
raised_more Spent number = Spent

-- look: the number was seen, by one load more
abbrev pub looked : Side → ℕ → Side
looked (Raiser raised kept) number = Raiser raised kept
looked (Looker seen loads) number = Looker number ((loads + 1) % 2 ^ 64)
looked Spent number = Spent

-- join: the number that the looker saw last is kept beside those raised
abbrev pub kept_more : Side → Side → Side
kept_more (Raiser raised kept) (Looker seen loads) = Raiser raised (seen ∷ kept)
kept_more (Raiser raised kept) (Raiser others others_kept) = Raiser raised kept
kept_more (Raiser raised kept) Spent = Raiser raised kept
kept_more (Looker seen loads) other = Looker seen loads
kept_more Spent other = Spent

-- check: each number kept is 0 or was raised
abbrev pub KeptIsRaised : Side → Type 0
KeptIsRaised (Raiser raised kept) = All (IsRaised raised) kept
KeptIsRaised (Looker seen loads) = Unit {0}
KeptIsRaised Spent = Unit {0}
