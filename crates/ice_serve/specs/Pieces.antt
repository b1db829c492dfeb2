-- Some bytes of a chunk, taken take by take.
use Rattle.std.specs.Prelude.{◌≡◌, ◌<◌, ℕ, true, false, List, [], ◌++◌, length, take}
use Rattle.part_spec.specs.Chip.{Chip}
use Rattle.line_spec.specs.Cut.{Item, Cuts}
use Rattle.line_spec.specs.Hearing.{Heard, HearsAll}
use Rattle.debug_spec.specs.Debugger.{listens}
use Rattle.debug_spec.specs.Schedule.{Session, heard_all, Keeps, line_ended}
use Rattle.debug_spec.specs.CutShort.{IsChunkCutShort}
use Rattle.debug_spec.specs.Take.{TakesFrame, TakesNone}
use Rattle.debug_spec.specs.TakeReplays.{FrameBehind}

-- of the bytes held and these some items are heard; and no more is taken than was needed: behind a shorter front of these bytes no further
-- frame waited
pub record IsTaken (part : Chip) (bytes : List ℕ) (before after : Session) : Type 0 where
  pub items : List Item
  pub behind : List ℕ
  pub heard : List Heard
  pub cuts : Cuts (before.held ++ bytes) items behind
  pub hears : HearsAll items heard
  pub state : after.state ≡ heard_all true part heard before.state
  pub keeps : Keeps (listens after.state.mode) behind after.held
  pub no_sooner : (k : ℕ) → k < length bytes → FrameBehind (before.held ++ take k bytes) items → ⊥

-- and so of a debugger that listens; else all are ignored
abbrev pub TakesFront : Chip → (bytes : List ℕ) → (before after : Session) → Type 0
TakesFront part bytes before after = elim (listens before.state.mode) [
  | true ↦ IsTaken part bytes before after
  | false ↦ after ≡ before
]

-- a frame is taken by a debugger that listens
abbrev pub HearsFrame : Chip → (used : List ℕ) → (before after : Session) → Type 0
HearsFrame part used before after = (listens before.state.mode ≡ true) × TakesFrame true part used before after

-- no frame came to wait, or the debugger does not listen and ignores the bytes
abbrev pub HearsNone : (used left : List ℕ) → (before after : Session) → Type 0
HearsNone used left before after = elim (listens before.state.mode) [
  | true ↦ TakesNone used left before after
  | false ↦ (left ≡ []) × (after ≡ before)
]

-- a chunk is cut short behind some items: the end of the line comes to the same here as there
abbrev pub IsCutShort : Chip → List ℕ → Session → Session → Type 0
IsCutShort part chunk before after = (items : List Item) × (cut : Session) × IsChunkCutShort true part chunk items before cut ×
    (line_ended part after ≡ line_ended part cut)
