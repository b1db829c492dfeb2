-- A session that is served, cut short: bytes that a note brought about could not be sent on, and the line ends there.
use Rattle.std.specs.Prelude.{◌≡◌, ℕ, ◌<◌, Bool, true, List, [], ◌++◌, length}
use Rattle.part_spec.specs.Chip.{Chip}
use Rattle.line_spec.specs.Cut.{Item, Cuts}
use Rattle.line_spec.specs.Hearing.{Heard, HearsAll}
use Rattle.debug_spec.specs.Debugger.{listens}
use Rattle.debug_spec.specs.Replay.{EndsWithFrame}
use Rattle.debug_spec.specs.Schedule.{Session, heard_all, Keeps, line_ended, is_awaited, Note, bytes, line_end_note, line_fault, too_long}
use Rattle.debug_spec.specs.Schedule.{halted, IsHalted, IsSchedule}

-- behind the bytes held, no shorter front of those taken has these items
abbrev pub IsJustTaken : List ℕ → List ℕ → List Item → Type 0
IsJustTaken held taken items =
    (shorter missing behind : List ℕ) → taken ≡ shorter ++ missing → 0 < length missing → Cuts (held ++ shorter) items behind → ⊥

-- of a chunk no more is taken than it takes to answer a frame, and what was taken behind that frame stays held
pub record IsChunkCutShort (planted : Bool) (part : Chip) (chunk : List ℕ) (items : List Item) (before after : Session) : Type 0 where
  pub taken : List ℕ
  pub left : List ℕ
  pub behind : List ℕ
  pub heard : List Heard
  pub listening : listens before.state.mode ≡ true
  pub split : chunk ≡ taken ++ left
  pub cuts : Cuts (before.held ++ taken) items behind
  pub frame : EndsWithFrame items
  pub just_taken : IsJustTaken before.held taken items
  pub hears : HearsAll items heard
  pub state : after.state ≡ heard_all planted part heard before.state
  pub keeps : Keeps (listens after.state.mode) behind after.held

-- the note whose bytes could not be sent on: a chunk is taken up to a frame, and the end of a run that is awaited is taken whole; at
-- the end of the line nothing is sent
abbrev pub TakesCutShort : Bool → Chip → Note → List Item → Session → Session → Type 0
TakesCutShort planted part (bytes chunk) items before after = IsChunkCutShort planted part chunk items before after
TakesCutShort planted part line_end_note items before after = ⊥
TakesCutShort planted part line_fault items before after = ⊥
TakesCutShort planted part too_long items before after = ⊥
TakesCutShort planted part (halted launch) items before after =
    (items ≡ []) × (is_awaited launch before ≡ true) × IsHalted planted part before after

-- a schedule that is cut short: the notes up to one are taken, and that one up to these items; then the line ends, and the later
-- notes go on from there
pub record IsScheduleCutShort (planted : Bool) (part : Chip) (front : List Note) (note : Note) (items : List Item) (more : List Note)
    (before after : Session) : Type 0 where
  pub there : Session
  pub cut : Session
  pub first : IsSchedule planted part front before there
  pub takes : TakesCutShort planted part note items there cut
  pub later : IsSchedule planted part more (line_ended part cut) after
