-- How a session opens.
use Rattle.std.specs.Prelude.{◌≡◌, ℕ, true, List, [], length}
use Rattle.part_spec.specs.Chip.{Chip, words_of}
use Rattle.debug_spec.specs.Device.{Device, synced}
use Rattle.debug_spec.specs.Debugger.{opened}
use Rattle.debug_spec.specs.Schedule.{Session}
use Rattle.debug_spec.specs.SessionLaws.{IsFit}

-- a session at its start, with nothing held
abbrev pub opening : Chip → List ℕ → Device → Session
opening part prog device = record { held = []; state = opened part prog device }

-- the session opens: no page write that makes the device the program failed
abbrev pub IsOpened : Chip → List ℕ → Device → Type 0
IsOpened part prog d = (synced part prog d).ok ≡ true

-- then the device holds the program
abbrev pub OpenedHasProgram : Type 0
OpenedHasProgram = (part : Chip) (prog : List ℕ) (d : Device) → length prog ≡ words_of part → IsFit part d → IsOpened part prog d →
    (opened part prog d).device.words ≡ prog
