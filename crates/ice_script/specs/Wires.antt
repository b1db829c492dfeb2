-- A link in memory to an emulator, and what its calls do.
use Rattle.std.specs.Prelude.{◌≡◌, ◌≤◌, ◌+◌, ℕ, Bool, true, false, ◌&&◌, nat_le, List, ◌++◌, length, None, Some}
use Rattle.part_spec.specs.declared.part.Part.{Part}
use Rattle.line_spec.specs.Frames.{IsBytes, IsPartial}
use Rattle.debug_spec.specs.Device.{Asked}
use Rattle.debug_spec.specs.Moved.{Flash}
use Rattle.debug_spec.specs.Debugger.{listens}
use Rattle.run_control.specs.declared.inline.Inline.{Inline}
use Rattle.run_control.specs.declared.job.Job.{Job}
use Rattle.host_session.specs.Words.{Words}
use Rattle.ice_emul.specs.declared.emulator.Emulator.{Emulator}
use Rattle.ice_replay.specs.Keeping.{IsKept, place}
use Rattle.ice_replay.specs.Steps.{IsPlaced}
use Rattle.ice_replay.specs.Chunks.{ChunkEnds}
use Rattle.ice_replay.specs.Endings.{LineEnds, is_closed}
use Rattle.ice_replay.specs.declared.chunk.Chunk.{Chunk}
use Rattle.ice_replay.specs.declared.chunk.Chunk.TheVariants.{Taken, Closed as Closes, Unsent}
use Rattle.ice_script.specs.Queue.{Waiting, room, queue_faults}

-- the most bytes that a wire takes
abbrev pub take_limit : ℕ
take_limit = 1099511627776

-- an emulator with its runner, and the bytes that wait
pub record Side (F : Type 0) : Type 0 where
  pub emulator : Emulator F
  pub runner : Inline F
  pub queue : Waiting

abbrev pub side : {F : Type 0} → Emulator F → Inline F → Waiting → Side F
side emulator runner queue = record { emulator = emulator; runner = runner; queue = queue }

-- and how many bytes more are taken, and whether something sent had no room to wait
pub record WireState (F : Type 0) : Type 0 where
  pub side : Side F
  pub allowed : ℕ
  pub lost : Bool

-- while the debugger listens less than a frame is held; else the session is closed
abbrev pub StandsBy : {F : Type 0} → (listening : Bool) → Emulator F → Type 0
StandsBy true e = IsPartial e.receiver.held
StandsBy false e = is_closed e.tool.mode ≡ true

-- what holds of a wire at every moment
pub record IsWire {F : Type 0} (flash : Flash F) (part_of : F → Part) (w : WireState F) : Type 0 where
  pub placed : IsPlaced flash part_of w.side.emulator w.side.runner
  pub stands : StandsBy (listens w.side.emulator.tool.mode) w.side.emulator
  pub counts : listens w.side.emulator.tool.mode ≡ true →
      w.side.runner.launches + length w.side.emulator.receiver.held + w.allowed ≤ take_limit

-- whatever was kept, the piece is a chunk of the line that ends so
abbrev pub IsTakenSo : {F : Type 0} → Flash F → (F → Part) → Chunk → (before : Side F) → (piece : List ℕ) → Side F → Type 0
IsTakenSo {F} flash part_of came before piece after = (job : Job F) (pend : List Asked) →
    IsKept flash part_of (place before.emulator before.runner job pend) →
    ChunkEnds flash part_of came (place before.emulator before.runner job pend) piece (Some before.queue.bytes) (Some after.queue.bytes)
    (queue_faults before.queue) (queue_faults after.queue) after.emulator after.runner

-- whatever was kept, the line ends
abbrev pub LineEndsThen : {F : Type 0} → Flash F → (F → Part) → (before after : Side F) → Type 0
LineEndsThen {F} flash part_of before after = (job : Job F) (pend : List Asked) →
    IsKept flash part_of (place before.emulator before.runner job pend) →
    LineEnds flash part_of (place before.emulator before.runner job pend) after.emulator after.runner

-- the part and the numbers of steps stay
pub record StaysSo {F : Type 0} (before after : Side F) : Type 0 where
  pub part : after.emulator.tool.plan.part ≡ before.emulator.tool.plan.part
  pub stops : after.runner.stops.items ≡ before.runner.stops.items

-- what becomes of a wire whose emulator took a piece; where there was no room for what it was answered, something is lost, and the
-- line ends
abbrev pub Becomes : {F : Type 0} → Flash F → (F → Part) → Chunk → (before : Side F) → (piece : List ℕ) → Side F → (lost : Bool) → Type 0
Becomes flash part_of Taken before piece after lost =
    IsTakenSo flash part_of Taken before piece after × StaysSo before after × (lost ≡ false)
Becomes flash part_of (Closes restored) before piece after lost =
    IsTakenSo flash part_of (Closes restored) before piece after × StaysSo before after × (lost ≡ false)
Becomes flash part_of (Unsent true) before piece after lost =
    IsTakenSo flash part_of (Unsent true) before piece after × StaysSo before after × (lost ≡ true)
Becomes {F} flash part_of (Unsent false) before piece after lost = (at : Side F) × (at.queue ≡ after.queue) ×
    IsTakenSo flash part_of (Unsent false) before piece at × LineEndsThen flash part_of at after ×
    (is_closed after.emulator.tool.mode ≡ true) × (lost ≡ true)

-- a piece is taken
pub record TakesPiece {F : Type 0} (flash : Flash F) (part_of : F → Part) (before : Side F) (piece : List ℕ) (after : Side F)
    (lost : Bool) : Type 0 where
  pub came : Chunk
  pub becomes : Becomes flash part_of came before piece after lost
  pub valid : IsBytes piece
  pub bytes : IsBytes after.queue.bytes
  pub full : after.queue.full ≡ true → room ≤ length after.queue.bytes

-- whether it is: while the debugger listens, up to the most bytes of a wire
abbrev pub takes : {F : Type 0} → WireState F → (piece : List ℕ) → Bool
takes w piece = listens w.side.emulator.tool.mode && nat_le (length piece) w.allowed

-- what a send does: else the piece is ignored
abbrev pub Sends : {F : Type 0} → Flash F → (F → Part) → WireState F → List ℕ → WireState F → Type 0
Sends flash part_of before piece after = elim (takes before piece) [
  | true ↦ TakesPiece flash part_of before.side piece after.side after.lost × (after.allowed + length piece ≡ before.allowed)
  | false ↦ after ≡ before
]

-- what a receive does: the oldest bytes are taken
abbrev pub Receives : {F : Type 0} → WireState F → List ℕ → WireState F → Type 0
Receives before bytes after = (before.side.queue.bytes ≡ bytes ++ after.side.queue.bytes) ×
    (after ≡ record before { side = record before.side { queue = record { bytes = after.side.queue.bytes; full = false } } })

-- the bytes that wait in a wire
abbrev pub waiting : {F : Type 0} → WireState F → List ℕ
waiting w = w.side.queue.bytes

-- no call of it fails
abbrev pub no_faults : {F : Type 0} → WireState F → ℕ
no_faults w = 0

-- the words of a wire
abbrev pub wire_words : {F : Type 0} → Flash F → (F → Part) → Words (WireState F)
wire_words flash part_of = record {
  sent = λ w. None;
  incoming = λ w. Some (waiting w);
  faults = no_faults;
  sends = Sends flash part_of;
  receives = Receives;
}
