-- What one take of bytes does: at most one frame is heard, its launch is left to another, and junk at the front is dropped.
use Rattle.std.specs.Prelude.{◌≡◌, ◌⊎◌, ℕ, ◌<◌, Bool, true, false, List, [], ◌∷◌, ◌++◌, length, take, map}
use Rattle.part_spec.specs.Chip.{Chip}
use Rattle.line_spec.specs.Frames.{Frame, IsPartial, IsJunk}
use Rattle.line_spec.specs.Cut.{whole, junk, Cuts}
use Rattle.line_spec.specs.Hearing.{Heard, Hears}
use Rattle.debug_spec.specs.Debugger.{Mode, launching, Debugger, listens, dropping}
use Rattle.debug_spec.specs.Running.{launch_if_prepared}
use Rattle.debug_spec.specs.Commands.{item}
use Rattle.debug_spec.specs.Schedule.{Session}

-- the session goes on: once a launch is answered, the debugger listens
abbrev pub goes_on : Mode → Bool
goes_on (launching number) = true
goes_on mode = listens mode

-- a whole frame waits, behind junk or at once
abbrev pub FrameWaits : List ℕ → Type 0
FrameWaits bytes = (ahead : List ℕ) × (frame : Frame) × (behind : List ℕ) × Cuts bytes (map junk ahead ++ whole frame ∷ []) behind

-- the junk at the front of what is behind a frame is dropped; where the session ends nothing is held, and nothing counted
abbrev pub Leaves : Bool → List ℕ → Debugger → Session → Type 0
Leaves true behind s after =
    (ahead : List ℕ) × Cuts behind (map junk ahead) after.held × (IsJunk after.held → ⊥) × (after.state ≡ dropping (length ahead) s)
Leaves false behind s after = after ≡ record { held = []; state = s }

-- a frame comes to wait with the last of the bytes used, or waited before: the junk ahead of it is dropped, and it is heard
pub record TakesFrame (planted : Bool) (part : Chip) (used : List ℕ) (before after : Session) : Type 0 where
  pub ahead : List ℕ
  pub frame : Frame
  pub behind : List ℕ
  pub heard : Heard
  pub cuts : Cuts (before.held ++ used) (map junk ahead ++ whole frame ∷ []) behind
  pub no_sooner : (k : ℕ) → k < length used → FrameWaits (before.held ++ take k used) → ⊥
  pub hears : Hears (whole frame) heard
  pub leaves : let s = item planted part heard (dropping (length ahead) before.state) in Leaves (goes_on s.mode) behind s after

-- no frame comes to wait, and all bytes are used: the junk at the front is dropped, and less than a frame is held
pub record TakesNone (used left : List ℕ) (before after : Session) : Type 0 where
  pub all : left ≡ []
  pub ahead : List ℕ
  pub cuts : Cuts (before.held ++ used) (map junk ahead) after.held
  pub partial : IsPartial after.held
  pub state : after.state ≡ dropping (length ahead) before.state

-- one take of bytes, of which some are used and the others left; one that comes when the debugger does not listen uses all and
-- changes nothing
abbrev pub IsTake : Bool → Chip → (used left : List ℕ) → (before after : Session) → Type 0
IsTake planted part used left before after = elim (listens before.state.mode) [
  | true ↦ TakesFrame planted part used before after ⊎ TakesNone used left before after
  | false ↦ (left ≡ []) × (after ≡ before)
]

-- the launch that a take has left is asked for
abbrev pub launched_then : Session → Session
launched_then s = record { held = s.held; state = launch_if_prepared s.state }

-- takes of a chunk, each followed by its launch, until the debugger listens no more, or all is used and no frame waits
abbrev pub AreTakes : Bool → Chip → List (List ℕ) → List ℕ → (before after : Session) → Type 0
AreTakes planted part [] chunk before after =
    (after ≡ before) × (listens before.state.mode ≡ true → (chunk ≡ []) × IsPartial before.held)
AreTakes planted part (used ∷ more) chunk before after =
    (left : List ℕ) × (between : Session) × (chunk ≡ used ++ left) × IsTake planted part used left before between ×
    AreTakes planted part more left (launched_then between) after
