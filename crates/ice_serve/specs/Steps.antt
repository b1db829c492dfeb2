-- One step: some bytes are taken, and a run is launched or stopped.
use Rattle.std.specs.Prelude.{◌≡◌, ◌≤◌, ◌+◌, ℕ, suc, Bool, true, false, List, length, take, drop, ⊤, is_ok}
use Rattle.part_spec.specs.declared.part.Part.{Part}
use Rattle.part_spec.specs.Chip.{Chip, chip_of}
use Rattle.line_spec.specs.Frames.{IsPartial}
use Rattle.ice_base.specs.Counts.{Rose}
use Rattle.debug_spec.specs.Moved.{Flash}
use Rattle.debug_spec.specs.Debugger.{Mode, closed, listens}
use Rattle.debug_spec.specs.Schedule.{Session}
use Rattle.debug_spec.specs.Take.{launched_then}
use Rattle.run_control.specs.declared.job.Job.{Job}
use Rattle.ice_emul.specs.Session.{Launches, DoesNotLaunch}
use Rattle.ice_emul.specs.Taking.{TakesOne, takes_line}
use Rattle.ice_emul.specs.declared.emulator.Emulator.{Emulator}
use Rattle.ice_serve.specs.Keeping.{Seen, HasJob, IsFree, Continues}
use Rattle.ice_serve.specs.Pieces.{HearsFrame, HearsNone}
use Rattle.ice_serve.specs.declared.step.Came.{Came}
use Rattle.ice_serve.specs.declared.step.Came.TheVariants.{Nothing, Frame, Closed}

-- a launch worked, and the runner has the job; or it was refused, and the runner's count rose in it
abbrev pub StartsBy : {F : Type 0} → Bool → Flash F → (F → Part) → Emulator F → Job F → Seen F → (okay : List ℕ) → Emulator F → Seen F →
    Type 0
StartsBy true flash part_of e job v okay after now =
    Launches flash part_of e job okay after × HasJob flash part_of job false now × (now.launches ≡ suc v.launches) × (v.faults ≤ now.faults)
StartsBy false flash part_of e job v okay after now =
    DoesNotLaunch flash part_of e job okay after × IsFree now × (now.launches ≡ v.launches) × Rose v.faults now.faults

-- a job is launched, and the frame that asked for it is answered
pub record Starts {F : Type 0} (flash : Flash F) (part_of : F → Part) (e : Emulator F) (job : Job F) (v : Seen F) (okay : List ℕ)
    (after : Emulator F) (now : Seen F) : Type 0 where
  pub worked : Bool
  pub how : StartsBy worked flash part_of e job v okay after now

-- no frame came to wait, or the debugger does not listen and ignores the bytes; or one was taken
abbrev pub TakesSo : Came → Chip → (used left : List ℕ) → (before after : Session) → Type 0
TakesSo Nothing part used left before after = HearsNone used left before after
TakesSo Frame part used left before after = HearsFrame part used before after
TakesSo (Closed restored) part used left before after = HearsFrame part used before after

-- one was
abbrev pub IsSome : Came → Type 0
IsSome Nothing = ⊥
IsSome Frame = ⊤
IsSome (Closed restored) = ⊤

-- a take with its launch
pub record IsStep (came : Came) (part : Chip) (used left : List ℕ) (before after : Session) : Type 0 where
  pub between : Session
  pub takes : TakesSo came part used left before between
  pub is : after ≡ launched_then between

-- one step is made with these bytes, of which so many are used
abbrev pub Steps : {F : Type 0} → Flash F → (F → Part) → Came → Emulator F → Job F → Seen F → (bytes : List ℕ) → (used : ℕ) →
    (out : List ℕ) → Emulator F → Seen F → Type 0
Steps flash part_of came e job v bytes used out after now =
    Continues flash part_of (IsStep came (chip_of e.tool.plan.part) (take used bytes) (drop used bytes)) e job v out after now

-- what came of it tells where the debugger is
abbrev pub StandsSo : Came → Mode → Mode → Type 0
StandsSo Nothing before mode = mode ≡ before
StandsSo Frame before mode = (listens before ≡ true) × (takes_line mode ≡ true)
StandsSo (Closed restored) before mode = (listens before ≡ true) × (mode ≡ closed (is_ok restored))

-- how many of the bytes are used: where no frame came to wait all are, and less than a frame is held while the debugger listens; else a
-- frame was taken off what was held
abbrev pub Spends : {F : Type 0} → Came → (all used : ℕ) → (before after : Emulator F) → Type 0
Spends Nothing all used before after = (used ≡ all) × (listens after.tool.mode ≡ true → IsPartial after.receiver.held) ×
    (length after.receiver.held ≤ length before.receiver.held + used)
Spends Frame all used before after = TakesOne used before.receiver.held after.receiver.held
Spends (Closed restored) all used before after = TakesOne used before.receiver.held after.receiver.held
