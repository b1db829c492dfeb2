-- What was asked of a device, made by a flash: any type of flash, with its own relation of page writes.
use Rattle.std.specs.Prelude.{◌≡◌, ℕ, suc, ◌+◌, ◌-◌, ◌^◌, ◌≤◌, min, Bool, false, List, [], ◌∷◌, ◌++◌, map, Option, None, Some, ⊤}
use Rattle.part_spec.specs.Pages.{page_of, with_page, PageWrite, IsTornPage}
use Rattle.std.specs.List.{All}
use Rattle.debug_spec.specs.Device.{Outcome, made, failed, denied, Asked, write, launch, outcome_of, is_made, page_left, AreTorn, journal}
use Rattle.debug_spec.specs.Device.{words_after, IsOutcome, Device}
use Rattle.debug_spec.specs.PageLaws.{AreAnswered, LeadsTo}

-- what is seen of a type of flash: its words, the page writes that were made where they are told, how many calls have failed, and
-- its relation of page writes: before, the page, its words, whether the write was made, after
pub record Flash (F : Type 0) : Type 1 where
  pub words : F → List ℕ
  pub told : F → Option (List PageWrite)
  pub faults : F → ℕ
  pub writes : F → ℕ → List ℕ → Bool → F → Type 0

-- a page write is never denied, and one that failed leaves each word of the page old or new
abbrev pub IsLeft : List ℕ → List ℕ → Outcome → Type 0
IsLeft old new made = ⊤
IsLeft old new (failed left) = IsTornPage old new left
IsLeft old new denied = ⊥

-- what is told, where it is told, gains these page writes at its end
abbrev pub Gains : Option (List PageWrite) → Option (List PageWrite) → List PageWrite → Type 0
Gains None now more = ⊤
Gains (Some before) None more = ⊥
Gains (Some before) (Some now) more = now ≡ before ++ more

-- a count rises by at least so many, as far as the greatest u64
abbrev pub Rises : ℕ → ℕ → ℕ → Type 0
Rises before more now = min (before + more) (2 ^ 64 - 1) ≤ now

-- how many page writes failed
abbrev pub failures : List Asked → ℕ
failures [] = 0
failures (write page words made ∷ asked) = failures asked
failures (write page words (failed left) ∷ asked) = suc (failures asked)
failures (write page words denied ∷ asked) = failures asked
failures (launch outcome ∷ asked) = failures asked

-- one page write of a flash, with its outcome
pub record IsWrite {F : Type 0} (flash : Flash F) (from : F) (page : ℕ) (content : List ℕ) (outcome : Outcome) (to : F) : Type 0 where
  pub moved : flash.writes from page content (is_made outcome) to
  pub leaves : flash.words to ≡ with_page (flash.words from) page (page_left outcome (page_of (flash.words from) page) content)
  pub fits : IsLeft (page_of (flash.words from) page) content outcome
  pub gains : Gains (flash.told from) (flash.told to) (journal (write page content outcome ∷ []))
  pub counts : flash.faults from ≤ flash.faults to
  pub cause : is_made outcome ≡ false → Rises (flash.faults from) 1 (flash.faults to)

-- the flash moved by all that was asked, one by one; a launch, which was made, leaves it as it is
abbrev pub Moved : {F : Type 0} → Flash F → F → List Asked → F → Type 0
Moved {F} flash from [] to = to ≡ from
Moved {F} flash from (write page content outcome ∷ asked) to =
    (between : F) × IsWrite flash from page content outcome between × Moved flash between asked to
Moved {F} flash from (launch outcome ∷ asked) to = (outcome ≡ made) × Moved flash from asked to

-- the device once this was asked of it, and these outcomes are left
abbrev pub asked_of : Device → List ℕ → List Asked → List Outcome → Device
asked_of d now asks left = record { words = now; asked = d.asked ++ asks; outcomes = left }

-- the laws of one type of flash: moves are joined and divided; they leave the words, the journal and the count that the asks say; and
-- to any device with these words whose outcomes answer the asks they do what the asks do to it
pub record FlashMoves {F : Type 0} (flash : Flash F) : Type 0 where
  pub onward : (a b c : F) (asks more : List Asked) → Moved flash a asks b → Moved flash b more c → Moved flash a (asks ++ more) c
  pub back : (a c : F) (asks more : List Asked) → Moved flash a (asks ++ more) c → (b : F) × Moved flash a asks b × Moved flash b more c
  pub leaves : (a b : F) (asks : List Asked) → Moved flash a asks b → flash.words b ≡ words_after (flash.words a) asks
  pub torn : (a b : F) (asks : List Asked) → Moved flash a asks b → AreTorn (flash.words a) asks
  pub fits : (a b : F) (asks : List Asked) → Moved flash a asks b → All IsOutcome (map outcome_of asks)
  pub gains : (a b : F) (asks : List Asked) → Moved flash a asks b → Gains (flash.told a) (flash.told b) (journal asks)
  pub rises : (a b : F) (asks : List Asked) → Moved flash a asks b → Rises (flash.faults a) (failures asks) (flash.faults b)
  pub leads : (a b : F) (asks : List Asked) (d : Device) (left : List Outcome) → Moved flash a asks b → flash.words a ≡ d.words →
      AreAnswered d.outcomes asks left → LeadsTo d (asked_of d (flash.words b) asks left)
  pub same : (a b : F) (from to : Device) (led : LeadsTo from to) → Moved flash a led.asks b → flash.words a ≡ from.words →
      flash.words b ≡ to.words

-- the laws of answers: what was asked is answered by its own outcomes; asks are answered one after the other; and they leave one rest
pub record AnswersGoOn : Type 0 where
  pub own : (asks : List Asked) (left : List Outcome) → AreAnswered (map outcome_of asks ++ left) asks left
  pub onward : (outcomes middle left : List Outcome) (asks more : List Asked) → AreAnswered outcomes asks middle →
      AreAnswered middle more left →
      AreAnswered outcomes (asks ++ more) left
  pub back : (outcomes left : List Outcome) (asks more : List Asked) → AreAnswered outcomes (asks ++ more) left →
      (middle : List Outcome) × AreAnswered outcomes asks middle × AreAnswered middle more left
  pub one : (outcomes left other : List Outcome) (asks : List Asked) → AreAnswered outcomes asks left → AreAnswered outcomes asks other →
      left ≡ other
