-- What pins a schedule down: what it has heard and holds are the bytes that it took, and a replay is one.
use Rattle.std.specs.Prelude.{◌≡◌, ℕ, suc, ◌<◌, ◌≤◌, Bool, true, false, List, [], ◌∷◌, ◌++◌}
use Rattle.part_spec.specs.Chip.{Chip}
use Rattle.line_spec.specs.Frames.{IsBytes, IsPartial}
use Rattle.line_spec.specs.Cut.{Item, whole, junk, IsCut}
use Rattle.line_spec.specs.Hearing.{Heard, HearsAll}
use Rattle.debug_spec.specs.Device.{Device}
use Rattle.debug_spec.specs.Debugger.{Debugger, listens}
use Rattle.debug_spec.specs.Replay.{steps_for, IsReplay}
use Rattle.debug_spec.specs.Schedule.{Session, Note, bytes, line_end_note, line_fault, too_long, halted, IsHeard, Takes, IsSchedule}
use Rattle.debug_spec.specs.Opening.{opening}

-- the bytes that notes bring, joined
abbrev pub bytes_of_notes : List Note → List ℕ
bytes_of_notes [] = []
bytes_of_notes (bytes chunk ∷ notes) = chunk ++ bytes_of_notes notes
bytes_of_notes (line_end_note ∷ notes) = bytes_of_notes notes
bytes_of_notes (line_fault ∷ notes) = bytes_of_notes notes
bytes_of_notes (too_long ∷ notes) = bytes_of_notes notes
bytes_of_notes (halted launch ∷ notes) = bytes_of_notes notes

-- a chunk is heard, where the debugger listens
abbrev pub IsHeardIf : Bool → Bool → Chip → List ℕ → Session → Session → Type 0
IsHeardIf listening planted part chunk before after = elim listening [
  | true ↦ IsHeard planted part chunk before after
  | false ↦ after ≡ before
]

-- what is heard of it
abbrev pub chunk_heard : (listening planted : Bool) (part : Chip) (chunk : List ℕ) (before after : Session) →
    IsHeardIf listening planted part chunk before after → List Heard
chunk_heard true planted part chunk before after h = h.heard
chunk_heard false planted part chunk before after h = []

-- what is heard of a note
abbrev pub note_heard : (planted : Bool) (part : Chip) (note : Note) (before after : Session) → Takes planted part note before after →
    List Heard
note_heard planted part (bytes chunk) before after h = chunk_heard (listens before.state.mode) planted part chunk before after h
note_heard planted part line_end_note before after h = []
note_heard planted part line_fault before after h = []
note_heard planted part too_long before after h = []
note_heard planted part (halted launch) before after h = []

-- what is heard over a schedule, in order
abbrev pub heard_of : (planted : Bool) (part : Chip) (notes : List Note) (before after : Session) →
    IsSchedule planted part notes before after → List Heard
heard_of planted part [] before after h = []
heard_of planted part (note ∷ notes) before after h =
    note_heard planted part note before h.0 h.1 ++ heard_of planted part notes h.0 after h.2

-- as long as the debugger listens, the items that it has heard and the bytes that it holds are the cut of all bytes taken
abbrev pub SchedulesAreCut : Type 0
SchedulesAreCut = (planted : Bool) (part : Chip) (notes : List Note) (before after : Session)
    (h : IsSchedule planted part notes before after) →
    IsPartial before.held → listens after.state.mode ≡ true →
    (items : List Item) × IsCut (before.held ++ bytes_of_notes notes) items after.held ×
    HearsAll items (heard_of planted part notes before after h)

-- how many frames are among some items
abbrev pub frames_in : List Item → ℕ
frames_in [] = 0
frames_in (whole frame ∷ items) = suc (frames_in items)
frames_in (junk byte ∷ items) = frames_in items

-- no byte of a line completes two frames at once. One that does completes a damaged frame as junk, and with it frames that stand
-- inside, between which a run may end in a replay and not in a schedule
abbrev pub IsOneByOne : List ℕ → Type 0
IsOneByOne line = (front more : List ℕ) (byte : ℕ) (items new : List Item) (behind rest : List ℕ) → line ≡ front ++ byte ∷ more →
    IsCut front items behind → IsCut (behind ++ byte ∷ []) new rest → frames_in new ≤ 1

-- a replay of such a line, with some steps for each launch, is a schedule whose notes bring the bytes of the line
abbrev pub ReplaysAreSchedules : Type 0
ReplaysAreSchedules = (planted : Bool) (part : Chip) (stops prog : List ℕ) (device : Device) (line : List ℕ) (end : Debugger) →
    IsBytes line → IsOneByOne line → ((launch : ℕ) → 0 < steps_for stops launch) → IsReplay planted part stops prog device line end →
    (notes : List Note) × (after : Session) × IsSchedule planted part notes (opening part prog device) after ×
    (after.state ≡ end) × (bytes_of_notes notes ≡ line)
