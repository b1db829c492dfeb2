-- How a part of the code is said to do what the book does where it asks things of the flash.
use Rattle.std.specs.Prelude.{◌≡◌, ℕ, List}
use Rattle.part_spec.specs.declared.part.Part.{Part}
use Rattle.part_spec.specs.Chip.{Chip, chip_of}
use Rattle.debug_spec.specs.Device.{Outcome, Asked}
use Rattle.debug_spec.specs.PageLaws.{AreAnswered}
use Rattle.debug_spec.specs.Moved.{Flash, Moved, asked_of}
use Rattle.debug_spec.specs.Debugger.{Debugger}
use Rattle.ice_answer.specs.Does.{At, IsAt}

-- there are asks by which the flash moved, and each debugger for which the code stands, whose device has the words of that flash and
-- whose outcomes answer them, is changed so: with these asks made, and the other outcomes left
pub record DoesAsking {F : Type 0} (flash : Flash F) (change : Chip → Debugger → Debugger) (a : At) (from : F) (b : At) (to : F) :
    Type 0 where
  pub asks : List Asked
  pub moved : Moved flash from asks to
  pub leads : (part : Part) (before : List ℕ) (s : Debugger) (left : List Outcome) → IsAt part before a s →
      flash.words from ≡ s.device.words → AreAnswered s.device.outcomes asks left →
      IsAt part before b (change (chip_of part) s) × ((change (chip_of part) s).device ≡ asked_of s.device (flash.words to) asks left) ×
      ((change (chip_of part) s).launches ≡ s.launches)
