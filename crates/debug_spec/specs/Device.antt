-- The device: a flash that page writes change, each with an outcome that is not known before.
use Rattle.std.specs.Prelude.{◌≡◌, ℕ, zero, suc, ◌/◌, Bool, true, false, List, [], ◌∷◌, ◌++◌, length, ⊤}
use Rattle.part_spec.specs.Chip.{Chip, page_words}
use Rattle.part_spec.specs.Pages.{page_of, with_page, page_has, PageWrite, IsTornPage}

-- what comes of a page write or a launch that is asked for: it is made; a page write fails, and leaves these words in the page; or
-- it is denied, as a launch may be, and changes nothing
pub data Outcome : Type 0 where
  made : Outcome
  failed : (left : List ℕ) → Outcome
  denied : Outcome

-- what was asked for, and what came of it
pub data Asked : Type 0 where
  write : (page : ℕ) → (words : List ℕ) → Outcome → Asked
  launch : Outcome → Asked

-- the device: the words that it holds, what was asked of it so far, in order, and the outcomes that are to come, one for each thing
-- asked; behind the last of them all goes well
pub record Device : Type 0 where
  pub words : List ℕ
  pub asked : List Asked
  pub outcomes : List Outcome

-- whether what was asked for was made, and the device then
pub record Tried : Type 0 where
  pub ok : Bool
  pub device : Device

-- what was asked for was made
abbrev pub is_made : Outcome → Bool
is_made made = true
is_made (failed left) = false
is_made denied = false

-- the words that a page has after a write, by its old words and the new ones
abbrev pub page_left : Outcome → List ℕ → List ℕ → List ℕ
page_left made old new = new
page_left (failed left) old new = left
page_left denied old new = old

-- the first outcome of a list
abbrev pub next_of : List Outcome → Outcome
next_of [] = made
next_of (outcome ∷ outcomes) = outcome

-- the outcomes behind the first
abbrev pub later_of : List Outcome → List Outcome
later_of [] = []
later_of (outcome ∷ outcomes) = outcomes

-- a page write is asked for
abbrev pub written : ℕ → List ℕ → Device → Tried
written page words d = let outcome = next_of d.outcomes in record {
  ok = is_made outcome;
  device = record {
    words = with_page d.words page (page_left outcome (page_of d.words page) words);
    asked = d.asked ++ write page words outcome ∷ [];
    outcomes = later_of d.outcomes;
  };
}

-- a launch is asked for
abbrev pub launched : Device → Tried
launched d = let outcome = next_of d.outcomes in record {
  ok = is_made outcome;
  device = record d { asked = d.asked ++ launch outcome ∷ []; outcomes = later_of d.outcomes };
}

-- nothing is asked for
abbrev pub untouched : Device → Tried
untouched d = record { ok = true; device = d }

-- a page is written where its words are not the wanted ones
abbrev pub synced_page : List ℕ → ℕ → Device → Tried
synced_page wanted page d = let words = page_of wanted page in
    elim (page_has d.words page words) [ true ↦ untouched d | false ↦ written page words d ]

-- n pages from one on are written so in rising order, up to the first write that fails
abbrev pub synced_from : List ℕ → ℕ → ℕ → Device → Tried
synced_from wanted page zero d = untouched d
synced_from wanted page (suc n) d = let tried = synced_page wanted page d in
    elim tried.ok [ true ↦ synced_from wanted (suc page) n tried.device | false ↦ tried ]

-- all pages of the part are written so
abbrev pub synced : Chip → List ℕ → Device → Tried
synced part wanted d = synced_from wanted 0 part.pages d

-- the page of an address is written so
abbrev pub replanted : List ℕ → ℕ → Device → Tried
replanted wanted address d = synced_page wanted (address / page_words) d

-- the journal of what was asked for: the page writes that were made, in order
abbrev pub journal : List Asked → List PageWrite
journal [] = []
journal (write page words made ∷ asked) = record { page = page; words = words } ∷ journal asked
journal (write page words (failed left) ∷ asked) = journal asked
journal (write page words denied ∷ asked) = journal asked
journal (launch outcome ∷ asked) = journal asked

-- the words of a flash once all that was asked for has come out as it did
abbrev pub words_after : List ℕ → List Asked → List ℕ
words_after flash [] = flash
words_after flash (write page words outcome ∷ asked) =
    words_after (with_page flash page (page_left outcome (page_of flash page) words)) asked
words_after flash (launch outcome ∷ asked) = words_after flash asked

-- what was asked for has come out so
abbrev pub outcome_of : Asked → Outcome
outcome_of (write page words outcome) = outcome
outcome_of (launch outcome) = outcome

-- an outcome has the words of a page where it is a failed write
abbrev pub IsOutcome : Outcome → Type 0
IsOutcome made = ⊤
IsOutcome (failed left) = length left ≡ page_words
IsOutcome denied = ⊤

-- each failed page write left each word old or new
abbrev pub AreTorn : List ℕ → List Asked → Type 0
AreTorn flash [] = ⊤
AreTorn flash (write page words made ∷ asked) = AreTorn (with_page flash page words) asked
AreTorn flash (write page words (failed left) ∷ asked) =
    IsTornPage (page_of flash page) words left × AreTorn (with_page flash page left) asked
AreTorn flash (write page words denied ∷ asked) = AreTorn flash asked
AreTorn flash (launch outcome ∷ asked) = AreTorn flash asked
