-- What the emulator stands for, with its target at home or out in a job.
use Rattle.std.specs.Prelude.{◌≡◌, true, [], Option, Some, None, is_some, IfSome}
use Rattle.part_spec.specs.declared.part.Part.{Part}
use Rattle.part_spec.specs.Chip.{chip_of}
use Rattle.avr_spec.specs.Kept.{kept}
use Rattle.ice_recv.specs.Received.{Received}
use Rattle.debug_spec.specs.Debugger.{programming}
use Rattle.debug_spec.specs.Moved.{Flash}
use Rattle.debug_spec.specs.SessionLaws.{IsSound}
use Rattle.debug_spec.specs.Schedule.{Session, Keeps}
use Rattle.debug_spec.specs.Take.{goes_on}
use Rattle.run_control.specs.declared.job.Job.{Job}
use Rattle.ice_answer.specs.Kept.{ToolState, kept_tool}
use Rattle.ice_emul.specs.Launching.{rests, IsAtHome, page_behind}
use Rattle.ice_emul.specs.declared.emulator.Emulator.{Emulator}

-- the job of a run as it was launched
pub record IsLaunched {F : Type 0} (part_of : F → Part) (tool : ToolState) (job : Job F) : Type 0 where
  pub flash : part_of job.flash ≡ tool.plan.part
  pub core : job.core.part ≡ chip_of tool.plan.part
  pub fresh : job.fresh ≡ true
  pub replant : job.replant ≡ page_behind tool job.core.pc

-- the target's job: at home it is the emulator's own, and while a run is prepared or out it is the one that was launched
abbrev pub IsJob : {F : Type 0} → (F → Part) → Option (Job F) → ToolState → Job F → Type 0
IsJob part_of (Some own) tool job = job ≡ own
IsJob part_of None tool job = IsLaunched part_of tool job

abbrev pub IsHeld : {F : Type 0} → (F → Part) → Emulator F → Job F → Type 0
IsHeld part_of e job = IsJob part_of e.target e.tool job

-- what holds of an emulator at every moment
pub record IsSoundEmulator {F : Type 0} (part_of : F → Part) (e : Emulator F) : Type 0 where
  pub here : is_some e.target ≡ rests e.tool.mode
  pub home : IfSome e.target (λ job. IsAtHome part_of e.tool job)
  pub soft : e.tool.mode ≡ programming → e.tool.plan.soft ≡ []

-- an emulator with its target's job
pub record Held (F : Type 0) : Type 0 where
  pub tool : ToolState
  pub received : Received
  pub job : Job F

abbrev pub held : {F : Type 0} → Emulator F → Job F → Held F
held e job = record { tool = e.tool; received = e.receiver; job = job }

-- it stands for a session: the bytes that the receiver holds are those held back, as long as the session goes on
pub record StandsFor {F : Type 0} (flash : Flash F) (h : Held F) (s : Session) : Type 0 where
  pub tool : h.tool ≡ kept_tool h.tool.plan.part s.state
  pub core : h.job.core ≡ kept (chip_of h.tool.plan.part) s.state.machine
  pub comparators : h.job.comparators ≡ s.state.comparators
  pub words : flash.words h.job.flash ≡ s.state.device.words
  pub held : Keeps (goes_on s.state.mode) h.received.held s.held
  pub sound : IsSound (chip_of h.tool.plan.part) s.state
