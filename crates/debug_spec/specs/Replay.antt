-- A replay: a session over the bytes of a line whose runs end where a list of numbers says, and so with nothing left open.
use Rattle.std.specs.Prelude.{◌≡◌, ℕ, zero, suc, ◌<◌, Bool, true, false, List, [], ◌∷◌, ◌++◌, length, Option, Some, None}
use Rattle.std.specs.List.{flat_map}
use Rattle.part_spec.specs.Chip.{Chip}
use Rattle.avr_spec.specs.Kept.{total_of}
use Rattle.line_spec.specs.Frames.{Frame, bytes_of}
use Rattle.line_spec.specs.Cut.{Item, whole, Cuts, IsCut}
use Rattle.line_spec.specs.Hearing.{Heard, HearsAll}
use Rattle.debug_spec.specs.Stop.{forced}
use Rattle.debug_spec.specs.Run.{End, end_within}
use Rattle.debug_spec.specs.Device.{journal, Device}
use Rattle.part_spec.specs.Pages.{PageWrite}
use Rattle.debug_spec.specs.Debugger.{Mode, stopped, launching, running, programming, leaving, closed, Debugger, opened, run_out}
use Rattle.debug_spec.specs.Running.{line_end, replant_failed, run_ended}
use Rattle.debug_spec.specs.Commands.{item_launched}

-- the number of steps for a launch, counted from 1: the last number serves all launches behind the list
abbrev pub steps_for : List ℕ → ℕ → ℕ
steps_for [] launch = 0
steps_for (steps ∷ []) launch = steps
steps_for (steps ∷ next ∷ stops) zero = steps
steps_for (steps ∷ next ∷ stops) (suc zero) = steps
steps_for (steps ∷ next ∷ stops) (suc (suc launch)) = steps_for (next ∷ stops) (suc launch)

-- the end of the run that is out, if it comes now: within its steps by itself, and behind them where a stop was asked for
abbrev pub end_now : Bool → Chip → ℕ → Debugger → Option End
end_now planted part steps s = elim (end_within part (run_out planted s) (replant_failed s) steps) [
  | Some e ↦ Some e
  | None ↦ elim s.stop_asked [ true ↦ Some (record { steps = steps; cause = forced }) | false ↦ None ]
]

-- an end that may not come
abbrev pub ended_if : Bool → Chip → Option End → Debugger → Debugger
ended_if planted part None s = s
ended_if planted part (Some e) s = run_ended planted part e s

-- a run that is out ends, if its end comes now
abbrev pub settled_in : Bool → Chip → List ℕ → Mode → Debugger → Debugger
settled_in planted part stops stopped s = s
settled_in planted part stops (launching number) s = s
settled_in planted part stops programming s = s
settled_in planted part stops running s = ended_if planted part (end_now planted part (steps_for stops s.launches) s) s
settled_in planted part stops leaving s = ended_if planted part (end_now planted part (steps_for stops s.launches) s) s
settled_in planted part stops (closed restored) s = s

-- what happens between two items
abbrev pub settled : Bool → Chip → List ℕ → Debugger → Debugger
settled planted part stops s = settled_in planted part stops s.mode s

-- items of the line, one by one
abbrev pub over : Bool → Chip → List ℕ → List Heard → Debugger → Debugger
over planted part stops [] s = s
over planted part stops (heard ∷ more) s = over planted part stops more (settled planted part stops (item_launched planted part heard s))

-- items of the line, and then its end with the bytes that are still held
abbrev pub over_all : Bool → Chip → List ℕ → List Heard → List ℕ → Debugger → Debugger
over_all planted part stops heard held s = settled planted part stops (line_end part held (over planted part stops heard s))

-- a replay of a program over these bytes, on a device
pub record IsReplay (planted : Bool) (part : Chip) (stops prog : List ℕ) (device : Device) (bytes : List ℕ) (end : Debugger) : Type 0 where
  pub items : List Item
  pub rest : List ℕ
  pub heard : List Heard
  pub cut : IsCut bytes items rest
  pub hears : HearsAll items heard
  pub is_end : end ≡ over_all planted part stops heard rest (opened part prog device)

-- the last of the items is a frame
abbrev pub EndsWithFrame : List Item → Type 0
EndsWithFrame items = (front : List Item) × (frame : Frame) × (items ≡ front ++ whole frame ∷ [])

-- no shorter front of the bytes has these items
abbrev pub IsJustThere : List ℕ → List Item → Type 0
IsJustThere bytes items =
    (shorter missing behind : List ℕ) → bytes ≡ shorter ++ missing → 0 < length missing → Cuts shorter items behind → ⊥

-- a replay that is cut short behind a frame: of the bytes no more is taken than it took to answer that frame, what was taken behind
-- the frame stays held, and the line ends
pub record IsReplayCutShort (planted : Bool) (part : Chip) (stops prog : List ℕ) (device : Device) (bytes : List ℕ) (items : List Item)
    (end : Debugger) : Type 0 where
  pub taken : List ℕ
  pub left : List ℕ
  pub held : List ℕ
  pub heard : List Heard
  pub split : bytes ≡ taken ++ left
  pub cuts : Cuts taken items held
  pub frame : EndsWithFrame items
  pub just_there : IsJustThere taken items
  pub hears : HearsAll items heard
  pub is_end : end ≡ over_all planted part stops heard held (opened part prog device)

-- the bytes that a session has sent
abbrev pub bytes_sent : Debugger → List ℕ
bytes_sent s = flat_map bytes_of s.sent

-- the totals of a session: cycles, steps, output writes and dropped bytes
pub record Totals : Type 0 where
  pub cycles : ℕ
  pub steps : ℕ
  pub writes : ℕ
  pub dropped : ℕ

-- the totals of this one
abbrev pub totals : Debugger → Totals
totals s = record { cycles = s.machine.io.cycles; steps = s.machine.steps; writes = total_of s.machine.io.outputs; dropped = s.dropped }

-- the page writes that a session has made
abbrev pub session_journal : Debugger → List PageWrite
session_journal s = journal s.device.asked
