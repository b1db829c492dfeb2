-- What a plan keeps: the program of a part, and the software breakpoints that the host set.
use Rattle.std.specs.Prelude.{ℕ, suc, ◌≤◌, ◌/◌, ◌%◌, ◌==◌, ◌||◌, Bool, false, if◌then◌else◌, List, [], ◌∷◌, slice_set}
use Rattle.std.specs.Prelude.{Option, None, Some, ⊤}
use Rattle.part_spec.specs.declared.part.Part.{Part}
use Rattle.part_spec.specs.Chip.{page_words}
use Rattle.debug_spec.specs.Patch.{break_word, without}
use Rattle.debug_spec.specs.Debugger.{targets_by}

pub record PlanState : Type 0 where
  pub part : Part
  pub prog : List ℕ
  pub soft : List ℕ

-- addresses in rising order, each once, from one on
abbrev pub RisesFrom : ℕ → List ℕ → Type 0
RisesFrom low [] = ⊤
RisesFrom low (address ∷ set) = (low ≤ address) × RisesFrom (suc address) set

-- addresses in rising order, each once
abbrev pub IsRising : List ℕ → Type 0
IsRising set = RisesFrom 0 set

-- the addresses that are planted: the software breakpoints and an extra one, but for one that is left out
abbrev pub planted : Option ℕ → Option ℕ → List ℕ → List ℕ
planted None extra soft = targets_by extra soft
planted (Some address) extra soft = without address (targets_by extra soft)

-- an address of a set is one of a page's
abbrev pub touches : (page : ℕ) → List ℕ → Bool
touches page [] = false
touches page (address ∷ set) = (address / page_words == page) || touches page set

-- the words of a page with a BREAK at an address, where it is one of the page's
abbrev pub with_break : (page address : ℕ) → List ℕ → List ℕ
with_break page address words = if address / page_words == page then slice_set words (address % page_words) break_word else words
