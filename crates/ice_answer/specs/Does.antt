-- How a part of the code is said to do what the book does: from whatever debugger it stands for, it comes to what the book makes of that.
use Rattle.std.specs.Prelude.{◌≡◌, ℕ, List, ◌++◌, Option}
use Rattle.part_spec.specs.declared.part.Part.{Part}
use Rattle.part_spec.specs.Chip.{Chip, chip_of}
use Rattle.avr_spec.specs.Kept.{Kept, kept}
use Rattle.line_spec.specs.Frames.{bytes_of}
use Rattle.debug_spec.specs.Debugger.{Debugger}
use Rattle.debug_spec.specs.Replay.{bytes_sent}
use Rattle.ice_answer.specs.Kept.{ToolState, kept_tool}

-- where the code is while its target is at home: the tool, the core and its comparators, and the bytes sent in this call
pub record At : Type 0 where
  pub tool : ToolState
  pub core : Kept
  pub comparators : List (Option ℕ)
  pub sent : List ℕ

abbrev pub at : ToolState → Kept → List (Option ℕ) → List ℕ → At
at tool core comparators sent = record { tool = tool; core = core; comparators = comparators; sent = sent }

-- it stands for a debugger, which had sent these bytes before the call
pub record IsAt (part : Part) (before : List ℕ) (a : At) (s : Debugger) : Type 0 where
  pub tool : a.tool ≡ kept_tool part s
  pub core : a.core ≡ kept (chip_of part) s.machine
  pub comparators : a.comparators ≡ s.comparators
  pub sent : bytes_sent s ≡ before ++ a.sent

-- nothing was asked of the device
pub record AsksNothing (s t : Debugger) : Type 0 where
  pub device : t.device ≡ s.device
  pub launches : t.launches ≡ s.launches

-- the code does what changes a debugger so, and asks nothing of the device
abbrev pub Does : (Chip → Debugger → Debugger) → At → At → Type 0
Does change a b = (part : Part) (before : List ℕ) (s : Debugger) → IsAt part before a s →
    IsAt part before b (change (chip_of part) s) × AsksNothing s (change (chip_of part) s)

-- the same with no regard to the target
abbrev pub DoesBeside : (Chip → Debugger → Debugger) → ToolState → List ℕ → ToolState → List ℕ → Type 0
DoesBeside change tool sent now more = (core : Kept) (comparators : List (Option ℕ)) →
    Does change (at tool core comparators sent) (at now core comparators more)

-- a frame is sent
abbrev pub Sends : ℕ → List ℕ → List ℕ → List ℕ → Type 0
Sends number body before after = after ≡ before ++ bytes_of (record { number = number; body = body })
