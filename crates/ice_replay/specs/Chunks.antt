-- What came of a chunk, and of each step within it.
use Rattle.std.specs.Prelude.{◌≡◌, ◌<◌, ℕ, Bool, true, false, List, ◌++◌, Option, Some, None, Result, take, is_ok, ⊤}
use Rattle.part_spec.specs.declared.part.Part.{Part}
use Rattle.part_spec.specs.Chip.{Chip, chip_of}
use Rattle.line_spec.specs.Frames.{IsPartial}
use Rattle.debug_spec.specs.Moved.{Flash}
use Rattle.debug_spec.specs.Debugger.{Mode, closed, listens}
use Rattle.debug_spec.specs.Schedule.{Session}
use Rattle.debug_spec.specs.TakeReplays.{IsReplayed}
use Rattle.flash_patch.specs.declared.plan.FlashFault.{FlashFault}
use Rattle.run_control.specs.declared.inline.Inline.{Inline}
use Rattle.ice_emul.specs.declared.emulator.Emulator.{Emulator}
use Rattle.ice_replay.specs.Keeping.{Place}
use Rattle.ice_replay.specs.Steps.{Continues}
use Rattle.ice_line.specs.Lines.{WritesAll, WritesFront}
use Rattle.ice_replay.specs.Lines.{WritesPast, WritesBehind}
use Rattle.ice_replay.specs.Replaying.{ClosesWhile, IsCut}
use Rattle.ice_replay.specs.declared.settle.Came.{Came}
use Rattle.ice_replay.specs.declared.settle.Came.TheVariants.{Nothing, Frame, Closed}
use Rattle.ice_replay.specs.declared.chunk.Chunk.{Chunk}
use Rattle.ice_replay.specs.declared.chunk.Chunk.TheVariants.{Taken, Closed as Closes, Unsent}

-- what a step sent is written; the chunk ends where no frame came to wait, where the session is closed, and where not all was written
abbrev pub WritesStep : Came → (stopped : Bool) → Option Chunk → (before after : Option (List ℕ)) → (faults faults_now : ℕ) → List ℕ → Type 0
WritesStep came stopped None before after faults faults_now bytes = (came ≡ Frame) × WritesAll before after faults faults_now bytes
WritesStep came stopped (Some Taken) before after faults faults_now bytes = (came ≡ Nothing) × (after ≡ before) × (faults_now ≡ faults)
WritesStep came stopped (Some (Closes restored)) before after faults faults_now bytes =
    (late : Bool) × (came ≡ Closed restored) × WritesBehind stopped late restored before after faults faults_now bytes
WritesStep came stopped (Some (Unsent true)) before after faults faults_now bytes =
    (restored : Result ⊤ FlashFault) × (came ≡ Closed restored) × WritesFront before after faults faults_now bytes ×
    (is_ok restored ≡ false → stopped ≡ true)
WritesStep came stopped (Some (Unsent false)) before after faults faults_now bytes =
    (came ≡ Frame) × WritesFront before after faults faults_now bytes

-- where the session is behind a frame whose answer could not be written
abbrev pub StandsUnsent : Bool → Mode → Type 0
StandsUnsent true mode = (restored : Bool) × (mode ≡ closed restored)
StandsUnsent false mode = listens mode ≡ true

-- some bytes of the chunk are taken, and what they are answered is written
abbrev pub TakesSome : {F : Type 0} → Flash F → (F → Part) → (Chip → List ℕ → List ℕ → Session → Session → Type 0) → Place F →
    (bytes out : List ℕ) → Emulator F → Inline F → Type 0
TakesSome flash part_of Goes before bytes out e r =
    Continues flash part_of (Goes (chip_of before.emulator.tool.plan.part) before.runner.stops.items bytes) before out e r

-- how a chunk ends: all of it is taken; the session is closed behind so many of its bytes, at least one; or it is cut short there
abbrev pub ChunkEnds : {F : Type 0} → Flash F → (F → Part) → Chunk → Place F → (chunk : List ℕ) → (before after : Option (List ℕ)) →
    (faults faults_now : ℕ) → Emulator F → Inline F → Type 0
ChunkEnds flash part_of Taken p chunk before after faults faults_now e r = (out : List ℕ) ×
    TakesSome flash part_of (IsReplayed true) p chunk out e r × WritesAll before after faults faults_now out × (listens e.tool.mode ≡ true) ×
    IsPartial e.receiver.held
ChunkEnds flash part_of (Closes restored) p chunk before after faults faults_now e r = (n : ℕ) × (out : List ℕ) ×
    (stopped late : Bool) × TakesSome flash part_of (ClosesWhile stopped) p (take n chunk) out e r ×
    WritesBehind stopped late restored before after faults faults_now out × (e.tool.mode ≡ closed (is_ok restored)) × (0 < n)
ChunkEnds flash part_of (Unsent closes) p chunk before after faults faults_now e r = (n : ℕ) × (ahead more : List ℕ) ×
    TakesSome flash part_of (λ part stops bytes. IsCut part stops bytes ahead) p (take n chunk) (ahead ++ more) e r ×
    WritesPast before after faults faults_now ahead more × StandsUnsent closes e.tool.mode × (0 < n)
