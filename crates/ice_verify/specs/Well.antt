-- How a part of the code is said to do what the book does, where the device makes all that is asked for: from whatever debugger it stands
-- for, it comes to what the book makes of that.
use Rattle.std.specs.Prelude.{◌≡◌, ℕ, List, []}
use Rattle.part_spec.specs.declared.part.Part.{Part}
use Rattle.part_spec.specs.Chip.{Chip, chip_of}
use Rattle.debug_spec.specs.Debugger.{Debugger}
use Rattle.ice_answer.specs.Does.{At, IsAt}

-- the device makes all that it is asked for
abbrev pub IsGood : Debugger → Type 0
IsGood s = s.device.outcomes ≡ []

abbrev pub DoesWell : (Chip → Debugger → Debugger) → At → At → Type 0
DoesWell change a b = (part : Part) (before : List ℕ) (s : Debugger) → IsAt part before a s → IsGood s →
    IsAt part before b (change (chip_of part) s) × IsGood (change (chip_of part) s)
