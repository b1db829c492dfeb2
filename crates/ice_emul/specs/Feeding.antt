-- The frame that waits is taken off the receiver and heard, if one waits.
use Rattle.std.specs.Prelude.{◌≡◌, ◌<◌, ◌≤◌, ◌+◌, ◌%◌, ◌^◌, ℕ, Bool, true, false, List, [], length, take, ◌++◌}
use Rattle.part_spec.specs.declared.part.Part.{Part}
use Rattle.line_spec.specs.Frames.{Frame}
use Rattle.ice_recv.specs.Received.{Received}
use Rattle.ice_recv.specs.Receiving.{Waits, HasFrame, Drops, risen}
use Rattle.ice_recv.specs.Handing.{Takes}
use Rattle.debug_spec.specs.Moved.{Flash}
use Rattle.debug_spec.specs.Take.{goes_on}
use Rattle.run_control.specs.declared.job.Job.{Job}
use Rattle.ice_answer.specs.Feeding.{counted_on}
use Rattle.ice_emul.specs.Taking.{HearsFrame}
use Rattle.ice_emul.specs.declared.emulator.Emulator.{Emulator}
use Rattle.ice_emul.specs.declared.emulator.Next.{Next}
use Rattle.ice_emul.specs.declared.emulator.Next.TheVariants.{Idle, Answered, Launch, RaiseStop, Closed}

-- the frame that waited is taken off and heard, and what the receiver dropped behind it is counted while the session goes on
pub record TakesFrameOff {F : Type 0} (flash : Flash F) (part_of : F → Part) (before : Emulator F) (job : Job F) (out : List ℕ)
    (next : Next F) (after : Emulator F) : Type 0 where
  pub frame : Frame
  pub takes : Takes before.receiver frame after.receiver
  pub middle : Emulator F
  pub hears : HearsFrame flash part_of (record before { receiver = after.receiver }) job frame out next middle
  pub is : after ≡ record middle {
    receiver = after.receiver;
    tool = counted_on (goes_on middle.tool.mode) before.receiver.dropped after.receiver.dropped middle.tool;
  }

-- the frame that waits is taken off and heard, and the junk behind it is counted while the session goes on; or none waits
abbrev pub TakesWaiting : {F : Type 0} → Flash F → (F → Part) → Emulator F → Job F → (out : List ℕ) → Next F → Emulator F → Type 0
TakesWaiting flash part_of before job out Idle after = (Waits before.receiver.held → ⊥) × (after ≡ before) × (out ≡ [])
TakesWaiting flash part_of before job out Answered after = TakesFrameOff flash part_of before job out Answered after
TakesWaiting flash part_of before job out (Launch own) after = TakesFrameOff flash part_of before job out (Launch own) after
TakesWaiting flash part_of before job out RaiseStop after = TakesFrameOff flash part_of before job out RaiseStop after
TakesWaiting flash part_of before job out (Closed restored) after = TakesFrameOff flash part_of before job out (Closed restored) after

-- a frame waited, and fewer bytes are held without it
abbrev pub IsOff : (before after : List ℕ) → Type 0
IsOff before after = Waits before × (length after < length before)

-- the frame that waited is taken off; or none waited, and all stays
abbrev pub TakesOff : {F : Type 0} → Next F → (before after : Received) → Type 0
TakesOff Idle before after = (Waits before.held → ⊥) × (after ≡ before)
TakesOff Answered before after = IsOff before.held after.held
TakesOff (Launch own) before after = IsOff before.held after.held
TakesOff RaiseStop before after = IsOff before.held after.held
TakesOff (Closed restored) before after = IsOff before.held after.held
