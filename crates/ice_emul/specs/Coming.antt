-- How the run that is out has ended, where more is known of its end than that it may come so.
use Rattle.std.specs.Prelude.{◌≡◌, ℕ, Bool, true, List, ◌++◌, ⊤, is_ok}
use Rattle.part_spec.specs.declared.part.Part.{Part}
use Rattle.part_spec.specs.Chip.{Chip, chip_of}
use Rattle.avr_spec.specs.Kept.{kept}
use Rattle.debug_spec.specs.Run.{End, after}
use Rattle.debug_spec.specs.RunLaws.{named_cause}
use Rattle.debug_spec.specs.Device.{Outcome, Asked}
use Rattle.debug_spec.specs.PageLaws.{AreAnswered}
use Rattle.debug_spec.specs.Moved.{Flash, Moved, asked_of}
use Rattle.debug_spec.specs.Debugger.{Mode, stopped, closed, Debugger, listens, is_out, targets, run_out}
use Rattle.debug_spec.specs.Running.{replant_failed, device_after, run_ended}
use Rattle.debug_spec.specs.Schedule.{Session}
use Rattle.run_control.specs.declared.job.Job.{Job}
use Rattle.run_control.specs.declared.runner.Done.{Done}
use Rattle.run_control.specs.Ends.{IsEndBy}
use Rattle.run_control.specs.Runs.{cause_of_halt}
use Rattle.ice_answer.specs.Kept.{ToolState}
use Rattle.ice_emul.specs.Standing.{Held, StandsFor, held}
use Rattle.ice_emul.specs.Taking.{DoesCall}
use Rattle.ice_emul.specs.declared.emulator.Emulator.{Emulator}
use Rattle.ice_emul.specs.declared.emulator.Next.{Next}
use Rattle.ice_emul.specs.declared.emulator.Next.TheVariants.{Idle, Answered, Launch, RaiseStop, Closed}
use Rattle.ice_emul.specs.declared.emulator.Input.{Input}
use Rattle.ice_emul.specs.declared.emulator.Input.TheVariants.{Bytes, LineEnd, Halted}
use Rattle.ice_emul.specs.declared.emulator.Taken.{Taken}

-- it is held for the run for which this job was launched
pub record IsForRun {F : Type 0} (tool : ToolState) (launched : Job F) (h : Held F) : Type 0 where
  pub job : h.job ≡ launched
  pub plan : h.tool.plan ≡ tool.plan
  pub run_to : h.tool.run_to ≡ tool.run_to

-- an end of a debugger's run of which this is said, with the target and the device as a job has them then, and named as the book names it
pub record IsCome {F : Type 0} (flash : Flash F) (part : Chip) (done : Done F) (Ends : Debugger → End → Type 0) (asks : List Asked)
    (s : Debugger) (left : List Outcome) : Type 0 where
  pub end : End
  pub is : Ends s end
  pub core : done.job.core ≡ kept part (after part (run_out true s) end.steps)
  pub device : device_after end.steps s ≡ asked_of s.device (flash.words done.job.flash) asks left
  pub cause : named_cause (targets s) (after part (run_out true s) end.steps).pc (cause_of_halt done.halt) ≡ end.cause

-- a job has come to the end of each run for which it was launched, and its flash moved by these asks
pub record ComesTo {F : Type 0} (flash : Flash F) (h : Held F) (done : Done F) (Ends : Debugger → End → Type 0) (asks : List Asked) :
    Type 0 where
  pub moved : Moved flash h.job.flash asks done.job.flash
  pub comparators : done.job.comparators ≡ h.job.comparators
  pub leads : (s : Session) (left : List Outcome) → StandsFor flash h s → is_out s.state.mode ≡ true →
      AreAnswered s.state.device.outcomes asks left → IsCome flash (chip_of h.tool.plan.part) done Ends asks s.state left

-- the end to which a run comes within a number of steps, or is forced behind them; and whether it comes by itself
abbrev pub EndsBy : ℕ → Bool → Chip → Debugger → End → Type 0
EndsBy number by_itself part s e = IsEndBy number by_itself part (run_out true s) (replant_failed s) e

-- the run that is out ends so
abbrev pub Halts : (Debugger → End → Type 0) → Chip → Session → Session → Type 0
Halts Ends part before after =
    (end : End) × Ends before.state end × (after ≡ record { held = before.held; state = run_ended true part end before.state })

-- that end is taken; what its run asked of the flash comes first
pub record DoesHalt {F : Type 0} (flash : Flash F) (part_of : F → Part) (Ends : Debugger → End → Type 0) (asks : List Asked)
    (before : Emulator F) (job : Job F) (out : List ℕ) (next : Next F) (after : Emulator F) : Type 0 where
  pub call : DoesCall flash part_of (Halts Ends (chip_of before.tool.plan.part)) before job out next after
  pub begins : (more : List Asked) × (call.carries.asks ≡ asks ++ more)

-- of an end that is handed in: where it is known itself, it is the one that is taken
abbrev pub TakesEnd : {F : Type 0} → Flash F → (F → Part) → Emulator F → Job F → Input F → (out : List ℕ) → Taken F → Emulator F → Type 0
TakesEnd flash part_of before job (Bytes bytes) out taken after = ⊤
TakesEnd flash part_of before job LineEnd out taken after = ⊤
TakesEnd flash part_of before job (Halted done) out taken after = (number : ℕ) (by_itself : Bool) (asks : List Asked) →
    ComesTo flash (held before job) done (EndsBy number by_itself (chip_of before.tool.plan.part)) asks →
    DoesHalt flash part_of (EndsBy number by_itself (chip_of before.tool.plan.part)) asks before job out taken.next after

-- once an end is taken the target is at home: stopped where the debugger listened, or the session is closed
abbrev pub IsOver : {F : Type 0} → Next F → (before after : Mode) → Type 0
IsOver Idle before after = ⊥
IsOver Answered before after = (listens before ≡ true) × (after ≡ stopped)
IsOver (Launch own) before after = ⊥
IsOver RaiseStop before after = ⊥
IsOver (Closed restored) before after = after ≡ closed (is_ok restored)

-- and so of a call
abbrev pub IsOverThen : {F : Type 0} → Input F → Next F → (before after : Mode) → Type 0
IsOverThen (Bytes bytes) next before after = ⊤
IsOverThen LineEnd next before after = ⊤
IsOverThen (Halted done) next before after = IsOver next before after
