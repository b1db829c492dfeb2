-- What a call asks of any type of flash: the same as the book asks of every device with the words of that flash.
use Rattle.std.specs.Prelude.{◌≡◌, ℕ, Bool, List, Option}
use Rattle.part_spec.specs.Pages.{PageWrite}
use Rattle.debug_spec.specs.Device.{Outcome, Asked, Device, Tried}
use Rattle.debug_spec.specs.PageLaws.{AreAnswered}
use Rattle.debug_spec.specs.Programming.{Programmed}
use Rattle.debug_spec.specs.Moved.{Flash, Moved, asked_of}

-- what is seen of a flash: its words, its journal, its count of faults, and its page writes
abbrev pub seen : {F : Type 0} → (F → List ℕ) → (F → Option (List PageWrite)) → (F → ℕ) → (F → ℕ → List ℕ → Bool → F → Type 0) → Flash F
seen {F} words told faults writes = record { words = words; told = told; faults = faults; writes = writes }

-- there are asks by which the flash moved, and each device with its words, whose outcomes answer them, is asked the same: to the same
-- end, with the flash's words then and the other outcomes left
pub record Asks {F : Type 0} (flash : Flash F) (does : Device → Tried) (before : F) (ok : Bool) (after : F) : Type 0 where
  pub asks : List Asked
  pub moved : Moved flash before asks after
  pub leads : (d : Device) (left : List Outcome) → flash.words before ≡ d.words → AreAnswered d.outcomes asks left →
      does d ≡ record { ok = ok; device = asked_of d (flash.words after) asks left }

-- the same of programming, which leaves a program
pub record Programs {F : Type 0} (flash : Flash F) (does : Device → Programmed) (before : F) (ok : Bool) (prog : List ℕ) (after : F) :
    Type 0 where
  pub asks : List Asked
  pub moved : Moved flash before asks after
  pub leads : (d : Device) (left : List Outcome) → flash.words before ≡ d.words → AreAnswered d.outcomes asks left →
      does d ≡ record { ok = ok; prog = prog; device = asked_of d (flash.words after) asks left }
