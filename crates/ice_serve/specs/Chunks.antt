-- What came of a chunk, and what is written of it.
use Rattle.std.specs.Prelude.{◌≡◌, ◌⊎◌, ℕ, true, false, List, [], Option, Some, None, Result, Ok, Err, is_ok, ⊤}
use Rattle.std.specs.Io.KnownBytes.{Appends}
use Rattle.part_spec.specs.declared.part.Part.{Part}
use Rattle.part_spec.specs.Chip.{chip_of}
use Rattle.debug_spec.specs.Moved.{Flash}
use Rattle.debug_spec.specs.Debugger.{Mode, closed, listens}
use Rattle.debug_spec.specs.Schedule.{IsChunk}
use Rattle.flash_patch.specs.declared.plan.FlashFault.{FlashFault}
use Rattle.run_control.specs.declared.job.Job.{Job}
use Rattle.ice_line.specs.Lines.{WritesAll, WritesFront}
use Rattle.ice_emul.specs.Taking.{takes_line}
use Rattle.ice_emul.specs.declared.emulator.Emulator.{Emulator}
use Rattle.ice_serve.specs.Keeping.{Seen, Continues}
use Rattle.ice_serve.specs.Pieces.{IsCutShort}
use Rattle.ice_serve.specs.declared.step.Came.{Came}
use Rattle.ice_serve.specs.declared.step.Came.TheVariants.{Nothing, Frame, Closed}
use Rattle.ice_serve.specs.declared.chunk.Chunk.{Chunk}
use Rattle.ice_serve.specs.declared.chunk.Chunk.TheVariants.{Taken, Closed as Closes, Unsent, ClosedUnsent}

-- what is written behind the end of a session: where the flash was not restored that came before the writing, and it may have failed too
abbrev pub WritesBehind : Result ⊤ FlashFault → (before after : Option (List ℕ)) → (faults faults_now : ℕ) → List ℕ → Type 0
WritesBehind (Ok restored) before after faults faults_now bytes = WritesAll before after faults faults_now bytes
WritesBehind (Err fault) before after faults faults_now bytes =
    Appends before after bytes ⊎ WritesFront before after faults faults_now bytes

-- what a step sent is written; the chunk ends where no frame came to wait, where the session is closed, and where not all was written
abbrev pub WritesStep : Came → Option Chunk → (before after : Option (List ℕ)) → (faults faults_now : ℕ) → List ℕ → Type 0
WritesStep came None before after faults faults_now bytes = (came ≡ Frame) × WritesAll before after faults faults_now bytes
WritesStep came (Some Taken) before after faults faults_now bytes = (came ≡ Nothing) × (after ≡ before) × (faults_now ≡ faults)
WritesStep came (Some (Closes restored)) before after faults faults_now bytes =
    (came ≡ Closed restored) × WritesBehind restored before after faults faults_now bytes
WritesStep came (Some Unsent) before after faults faults_now bytes = (came ≡ Frame) × WritesFront before after faults faults_now bytes
WritesStep came (Some ClosedUnsent) before after faults faults_now bytes =
    (came ≡ Closed (Ok tt)) × WritesFront before after faults faults_now bytes

-- a chunk is taken whole
abbrev pub TakesChunk : {F : Type 0} → Flash F → (F → Part) → Emulator F → Job F → Seen F → (chunk out : List ℕ) → Emulator F → Seen F →
    Type 0
TakesChunk flash part_of e job v chunk out after now =
    Continues flash part_of (IsChunk true (chip_of e.tool.plan.part) chunk) e job v out after now

-- or up to a frame whose answer could not be written
abbrev pub CutsChunk : {F : Type 0} → Flash F → (F → Part) → Emulator F → Job F → Seen F → (chunk out : List ℕ) → Emulator F → Seen F →
    Type 0
CutsChunk flash part_of e job v chunk out after now =
    Continues flash part_of (IsCutShort (chip_of e.tool.plan.part) chunk) e job v out after now

-- how a chunk ends: all of it is taken, the session closed with it or not; or it is cut short
abbrev pub ChunkEnds : {F : Type 0} → Flash F → (F → Part) → Chunk → Emulator F → Job F → Seen F → (chunk : List ℕ) →
    (before after : Option (List ℕ)) → (faults faults_now : ℕ) → Emulator F → Seen F → Type 0
ChunkEnds flash part_of Taken e job v chunk before after faults faults_now e_then v_then = (out : List ℕ) ×
    TakesChunk flash part_of e job v chunk out e_then v_then × WritesAll before after faults faults_now out ×
    (listens e.tool.mode ≡ false → out ≡ [])
ChunkEnds flash part_of (Closes restored) e job v chunk before after faults faults_now e_then v_then = (out : List ℕ) ×
    TakesChunk flash part_of e job v chunk out e_then v_then × WritesBehind restored before after faults faults_now out
ChunkEnds flash part_of Unsent e job v chunk before after faults faults_now e_then v_then = (out : List ℕ) ×
    CutsChunk flash part_of e job v chunk out e_then v_then × WritesFront before after faults faults_now out
ChunkEnds flash part_of ClosedUnsent e job v chunk before after faults faults_now e_then v_then = (out : List ℕ) ×
    CutsChunk flash part_of e job v chunk out e_then v_then × WritesFront before after faults faults_now out

-- where the session then is
abbrev pub StandsChunk : Chunk → Mode → Type 0
StandsChunk Taken mode = takes_line mode ≡ true
StandsChunk (Closes restored) mode = mode ≡ closed (is_ok restored)
StandsChunk Unsent mode = takes_line mode ≡ true
StandsChunk ClosedUnsent mode = mode ≡ closed true

-- a chunk that the debugger ignores writes nothing
abbrev pub IgnoresChunk : Chunk → (before after : Option (List ℕ)) → (faults faults_now : ℕ) → Type 0
IgnoresChunk end before after faults faults_now = (end ≡ Taken) × (after ≡ before) × (faults_now ≡ faults)
