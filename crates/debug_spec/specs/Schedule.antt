-- A session that is served: what it takes, note by note, from the line and from the target that runs beside it.
use Rattle.std.specs.Prelude.{◌≡◌, ℕ, ◌==◌, ◌&&◌, Bool, true, false, List, [], ◌∷◌, ◌++◌}
use Rattle.part_spec.specs.Chip.{Chip}
use Rattle.line_spec.specs.Frames.{IsPartial}
use Rattle.line_spec.specs.Cut.{Item, Cuts}
use Rattle.line_spec.specs.Hearing.{Heard, HearsAll}
use Rattle.debug_spec.specs.Run.{End}
use Rattle.debug_spec.specs.Debugger.{Debugger, listens, is_out}
use Rattle.debug_spec.specs.Running.{line_end, run_ended, MayEnd}
use Rattle.debug_spec.specs.Commands.{item_launched}

-- a session: the bytes held back, which may still become a frame, and the debugger
pub record Session : Type 0 where
  pub held : List ℕ
  pub state : Debugger

-- items of the line, one by one, with no end of a run between them
abbrev pub heard_all : Bool → Chip → List Heard → Debugger → Debugger
heard_all planted part [] s = s
heard_all planted part (heard ∷ more) s = heard_all planted part more (item_launched planted part heard s)

-- what is held behind items that were heard: what is left of the bytes, or nothing where the debugger listens no more
abbrev pub Keeps : Bool → List ℕ → List ℕ → Type 0
Keeps true behind held = held ≡ behind
Keeps false behind held = held ≡ []

-- a part of a chunk: of the bytes held and these some items are heard, and more may wait among those that are held then
pub record IsPiece (planted : Bool) (part : Chip) (bytes : List ℕ) (before after : Session) : Type 0 where
  pub items : List Item
  pub behind : List ℕ
  pub heard : List Heard
  pub cuts : Cuts (before.held ++ bytes) items behind
  pub hears : HearsAll items heard
  pub state : after.state ≡ heard_all planted part heard before.state
  pub keeps : Keeps (listens after.state.mode) behind after.held

-- what is held behind the items of a chunk: the rest, or nothing where the debugger listens no more
abbrev pub Holds : Bool → List ℕ → List ℕ → Type 0
Holds true behind held = IsPartial behind × (held ≡ behind)
Holds false behind held = held ≡ []

-- a chunk is cut into items that are heard one by one, up to the one with which the debugger listens no more
pub record IsHeard (planted : Bool) (part : Chip) (bytes : List ℕ) (before after : Session) : Type 0 where
  pub items : List Item
  pub behind : List ℕ
  pub heard : List Heard
  pub cuts : Cuts (before.held ++ bytes) items behind
  pub hears : HearsAll items heard
  pub state : after.state ≡ heard_all planted part heard before.state
  pub holds : Holds (listens after.state.mode) behind after.held

-- a chunk of bytes; one that comes when the debugger does not listen is ignored
abbrev pub IsChunk : Bool → Chip → List ℕ → Session → Session → Type 0
IsChunk planted part bytes before after = elim (listens before.state.mode) [
  | true ↦ IsHeard planted part bytes before after
  | false ↦ after ≡ before
]

-- the line ends
abbrev pub line_ended : Chip → Session → Session
line_ended part before = record { held = []; state = line_end part before.held before.state }

-- a note: bytes of the line, the end of the line in one of its kinds, or that the target of the k-th launch has stopped
pub data Note : Type 0 where
  bytes : List ℕ → Note
  line_end_note : Note
  line_fault : Note
  too_long : Note
  halted : (launch : ℕ) → Note

-- that target is the one whose run is out
abbrev pub is_awaited : ℕ → Session → Bool
is_awaited launch before = is_out before.state.mode && (launch == before.state.launches)

-- the run that is out ends in one of the ways in which it may
pub record IsHalted (planted : Bool) (part : Chip) (before after : Session) : Type 0 where
  pub end : End
  pub may : MayEnd planted part before.state end
  pub is : after ≡ record { held = before.held; state = run_ended planted part end before.state }

-- what one note does; a note of a target that is not awaited does nothing
abbrev pub Takes : Bool → Chip → Note → Session → Session → Type 0
Takes planted part (bytes chunk) before after = IsChunk planted part chunk before after
Takes planted part line_end_note before after = after ≡ line_ended part before
Takes planted part line_fault before after = after ≡ line_ended part before
Takes planted part too_long before after = after ≡ line_ended part before
Takes planted part (halted launch) before after = elim (is_awaited launch before) [
  | true ↦ IsHalted planted part before after
  | false ↦ after ≡ before
]

-- what a list of notes does, one by one
abbrev pub IsSchedule : Bool → Chip → List Note → Session → Session → Type 0
IsSchedule planted part [] before after = after ≡ before
IsSchedule planted part (note ∷ notes) before after =
    (between : Session) × Takes planted part note before between × IsSchedule planted part notes between after
