-- The laws of takes, as facts.
use Rattle.std.specs.Prelude.{◌≡◌, ℕ, Bool, List, ◌++◌}
use Rattle.part_spec.specs.Chip.{Chip}
use Rattle.line_spec.specs.Frames.{IsBytes}
use Rattle.debug_spec.specs.Debugger.{launching, Debugger, dropping}
use Rattle.debug_spec.specs.Running.{launch_if_prepared}
use Rattle.debug_spec.specs.Schedule.{Session, IsChunk}
use Rattle.debug_spec.specs.Take.{IsTake, AreTakes}

-- a take of a chunk uses so much of it and leads to one session only
abbrev pub OneTake : Type 0
OneTake = (planted : Bool) (part : Chip) (used left also others : List ℕ) (before after other : Session) → used ++ left ≡ also ++ others →
    IsTake planted part used left before after → IsTake planted part also others before other →
    (used ≡ also) × (left ≡ others) × (after ≡ other)

-- and each chunk of bytes can be taken
abbrev pub EveryChunkIsTaken : Type 0
EveryChunkIsTaken = (planted : Bool) (part : Chip) (chunk : List ℕ) (before : Session) → IsBytes (before.held ++ chunk) →
    (used : List ℕ) × (left : List ℕ) × (after : Session) × (chunk ≡ used ++ left) × IsTake planted part used left before after

-- whether bytes are dropped before or after a launch is the same
abbrev pub LaunchesDrop : Type 0
LaunchesDrop = (count : ℕ) (s : Debugger) → launch_if_prepared (dropping count s) ≡ dropping count (launch_if_prepared s)

-- takes of a chunk are together the chunk
abbrev pub TakesMakeChunks : Type 0
TakesMakeChunks = (planted : Bool) (part : Chip) (pieces : List (List ℕ)) (chunk : List ℕ) (before after : Session) →
    ((number : ℕ) → before.state.mode ≡ launching number → ⊥) →
    AreTakes planted part pieces chunk before after → IsChunk planted part chunk before after

-- each chunk of bytes is taken by some takes, unless a launch is still to be answered
abbrev pub EveryChunkEnds : Type 0
EveryChunkEnds = (planted : Bool) (part : Chip) (chunk : List ℕ) (before : Session) → IsBytes (before.held ++ chunk) →
    ((number : ℕ) → before.state.mode ≡ launching number → ⊥) →
    (pieces : List (List ℕ)) × (after : Session) × AreTakes planted part pieces chunk before after
