-- One step of a replay.
use Rattle.std.specs.Prelude.{◌≡◌, ◌+◌, ◌≤◌, ℕ, suc, Bool, true, false, List, [], length, take, drop, ⊤, is_ok}
use Rattle.part_spec.specs.declared.part.Part.{Part}
use Rattle.part_spec.specs.Chip.{Chip, chip_of}
use Rattle.line_spec.specs.Frames.{IsPartial}
use Rattle.debug_spec.specs.Device.{Asked}
use Rattle.debug_spec.specs.Moved.{Flash}
use Rattle.debug_spec.specs.Debugger.{Mode, stopped, closed, listens, is_out}
use Rattle.debug_spec.specs.Replay.{steps_for, settled}
use Rattle.debug_spec.specs.Schedule.{Session}
use Rattle.debug_spec.specs.Take.{TakesFrame, TakesNone, launched_then}
use Rattle.debug_spec.specs.TakeReplays.{settled_then}
use Rattle.run_control.specs.Ends.{is_taken}
use Rattle.run_control.specs.declared.inline.Inline.{Inline}
use Rattle.run_control.specs.declared.job.Job.{Job}
use Rattle.ice_emul.specs.Coming.{EndsBy, DoesHalt}
use Rattle.ice_emul.specs.Session.{Launches}
use Rattle.ice_emul.specs.Taking.{TakesOne}
use Rattle.ice_emul.specs.declared.emulator.Emulator.{Emulator}
use Rattle.ice_emul.specs.declared.emulator.Next.{Next}
use Rattle.ice_replay.specs.Keeping.{Place, place, Waits, IsKept, GoesOn}
use Rattle.ice_replay.specs.declared.settle.Came.{Came}
use Rattle.ice_replay.specs.declared.settle.Came.TheVariants.{Nothing, Frame, Closed}

-- something is kept
abbrev pub IsPlaced : {F : Type 0} → Flash F → (F → Part) → Emulator F → Inline F → Type 0
IsPlaced {F} flash part_of e r = (job : Job F) × (pend : List Asked) × IsKept flash part_of (place e r job pend)

-- no frame came to wait, or one was taken
abbrev pub TakesSo : Came → Chip → (used left : List ℕ) → (before after : Session) → Type 0
TakesSo Nothing part used left before after = TakesNone used left before after
TakesSo Frame part used left before after = TakesFrame true part used before after
TakesSo (Closed restored) part used left before after = TakesFrame true part used before after

-- one was
abbrev pub IsSome : Came → Type 0
IsSome Nothing = ⊥
IsSome Frame = ⊤
IsSome (Closed restored) = ⊤

-- a take with its launch, and what happens then
pub record IsStep (came : Came) (part : Chip) (stops used left : List ℕ) (before after : Session) : Type 0 where
  pub listening : listens before.state.mode ≡ true
  pub quiet : settled true part stops before.state ≡ before.state
  pub between : Session
  pub takes : TakesSo came part used left before between
  pub is : after ≡ settled_then true part stops (launched_then between)

-- what is kept goes on so
pub record Continues {F : Type 0} (flash : Flash F) (part_of : F → Part) (Goes : Session → Session → Type 0) (before : Place F)
    (out : List ℕ) (e : Emulator F) (r : Inline F) : Type 0 where
  pub job : Job F
  pub pend : List Asked
  pub kept : IsKept flash part_of (place e r job pend)
  pub goes : GoesOn flash Goes before out (place e r job pend)

-- one step is made with these bytes, of which so many are used
abbrev pub Steps : {F : Type 0} → Flash F → (F → Part) → Came → Place F → (bytes : List ℕ) → (used : ℕ) → (out : List ℕ) →
    Emulator F → Inline F → Type 0
Steps flash part_of came before bytes used out e r =
    Continues flash part_of
    (IsStep came (chip_of before.emulator.tool.plan.part) before.runner.stops.items (take used bytes) (drop used bytes)) before out e r

-- what came of it tells where the debugger is
abbrev pub StandsSo : Came → Mode → Type 0
StandsSo Nothing mode = listens mode ≡ true
StandsSo Frame mode = listens mode ≡ true
StandsSo (Closed restored) mode = mode ≡ closed (is_ok restored)

-- a step with which the session is closed stopped a run for it, or none was out
abbrev pub IsStoppedFor : Came → (was_out : Bool) → (before : Mode) → Type 0
IsStoppedFor Nothing was_out before = ⊤
IsStoppedFor Frame was_out before = ⊤
IsStoppedFor (Closed restored) was_out before = is_out before ≡ was_out

-- how many of the bytes are used: where no frame came to wait all are, and less than a frame is held; else a frame was taken off what was
-- held
abbrev pub Spends : {F : Type 0} → Came → (all used : ℕ) → (before after : Emulator F) → Type 0
Spends Nothing all used before after = (used ≡ all) × IsPartial after.receiver.held ×
    (length after.receiver.held ≤ length before.receiver.held + used)
Spends Frame all used before after = TakesOne used before.receiver.held after.receiver.held
Spends (Closed restored) all used before after = TakesOne used before.receiver.held after.receiver.held

-- the end of a run that is taken: the target is stopped where the debugger listened, or the session is closed with its flash restored or
-- not
abbrev pub EndsIn : Came → (before after : Mode) → Type 0
EndsIn Nothing before after = ⊥
EndsIn Frame before after = (listens before ≡ true) × (after ≡ stopped)
EndsIn (Closed restored) before after = after ≡ closed (is_ok restored)

-- the end of the run that is out is taken
abbrev pub Settles : {F : Type 0} → Flash F → (F → Part) → ℕ → Bool → List Asked → Emulator F → Job F → (out : List ℕ) → Emulator F → Type 0
Settles {F} flash part_of number by_itself pend before job out after = (next : Next F) ×
    DoesHalt flash part_of (EndsBy number by_itself (chip_of before.tool.plan.part)) pend before job out next after

-- a run that was launched has ended within its steps by itself, and its end is taken; or it waits for a stop
abbrev pub StartsBy : {F : Type 0} → Bool → Flash F → (F → Part) → ℕ → List Asked → Emulator F → Job F → (event : List ℕ) → Emulator F →
    Inline F → Type 0
StartsBy true flash part_of number pend mid job event after now =
    Settles flash part_of number true pend mid job event after × (is_out after.tool.mode ≡ false) × (is_taken now.seat ≡ false)
StartsBy false flash part_of number pend mid job event after now =
    (after ≡ mid) × (event ≡ []) × Waits flash part_of (place mid now job pend)

-- a job is launched, and the frame that asked for it is answered
pub record Starts {F : Type 0} (flash : Flash F) (part_of : F → Part) (e : Emulator F) (r : Inline F) (job : Job F) (okay event : List ℕ)
    (after : Emulator F) (now : Inline F) : Type 0 where
  pub mid : Emulator F
  pub answers : Launches flash part_of e job okay mid
  pub pend : List Asked
  pub by_itself : Bool
  pub how : StartsBy by_itself flash part_of (steps_for r.stops.items (suc r.launches)) pend mid job event after now
