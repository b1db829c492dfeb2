-- A flash in memory, and what a page write does to it.
use Rattle.std.specs.Prelude.{◌≡◌, ℕ, min, Bool, true, false, List, [], ◌∷◌, ◌++◌, take, drop, length, Option, None, Some, MatchOption, nat_le, if◌then◌else◌}
use Rattle.std.specs.Option.{option_map}
use Rattle.part_spec.specs.declared.part.Part.{Part}
use Rattle.part_spec.specs.Chip.{page_words}
use Rattle.part_spec.specs.Pages.{PageWrite, page_of, with_page}
use Rattle.ice_base.specs.Counts.{next_count}
use Rattle.ice_base.specs.Failing.{failed_amount}

-- the part, the words, the journal where one is kept, how many entries that has room for, the calls that are to fail, the calls so far, the failed calls so far
pub record FlashState : Type 0 where
  pub part : Part
  pub words : List ℕ
  pub journal : Option (List PageWrite)
  pub room : ℕ
  pub fails : List (ℕ × ℕ)
  pub calls : ℕ
  pub faults : ℕ

-- a journal is kept and has no room left
abbrev pub is_full : Option (List PageWrite) → ℕ → Bool
is_full None room = false
is_full (Some entries) room = nat_le room (length entries)

-- how many words of its page the write with this number sets where it fails, and none where it does not fail
abbrev pub torn_at : FlashState → ℕ → Option ℕ
torn_at flash call = if is_full flash.journal flash.room then Some 0
    else option_map (λ amount. min amount page_words) (failed_amount flash.fails call)

-- what is left of a page once so many words from its front have their new values
abbrev pub fronted : ℕ → List ℕ → List ℕ → List ℕ
fronted count new old = take count new ++ drop count old

-- the flash once so many words from the front of a page have their new values
abbrev pub with_front : List ℕ → ℕ → ℕ → List ℕ → List ℕ
with_front flash page count words = with_page flash page (fronted count words (page_of flash page))

-- the journal, where one is kept, with this page write at its end
abbrev pub logged : Option (List PageWrite) → ℕ → List ℕ → Option (List PageWrite)
logged journal page words = option_map (λ entries. entries ++ record { page = page; words = words } ∷ []) journal

-- the flash after a page write
abbrev pub after_write : FlashState → ℕ → List ℕ → FlashState
after_write flash page words = record flash { words = with_page flash.words page words; journal = logged flash.journal page words; calls = next_count flash.calls }

-- the flash after a page write that failed once so many words were set
abbrev pub after_torn_write : FlashState → ℕ → ℕ → List ℕ → FlashState
after_torn_write flash page count words = record flash { words = with_front flash.words page count words; calls = next_count flash.calls; faults = next_count flash.faults }

-- what a page write does: the flash before, the page, its words, whether the write was made, the flash after
abbrev pub WritesPage : FlashState → ℕ → List ℕ → Bool → FlashState → Type 0
WritesPage before page words ok after = MatchOption (torn_at before (next_count before.calls))
    ((ok ≡ true) × (after ≡ after_write before page words))
    (λ count. (ok ≡ false) × (after ≡ after_torn_write before page count words))
