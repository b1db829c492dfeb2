-- How a session begins, how a launch is answered, and what is left at its end.
use Rattle.std.specs.Prelude.{◌≡◌, ℕ, suc, false, List, [], ◌∷◌, ◌++◌, Some}
use Rattle.part_spec.specs.declared.part.Part.{Part}
use Rattle.part_spec.specs.Chip.{chip_of}
use Rattle.debug_spec.specs.Device.{Outcome, made, denied, Asked, launch, Device, synced}
use Rattle.debug_spec.specs.PageLaws.{AreAnswered}
use Rattle.debug_spec.specs.Moved.{Flash, Moved, asked_of}
use Rattle.debug_spec.specs.SessionLaws.{IsFit}
use Rattle.debug_spec.specs.Debugger.{stopped, running, opened}
use Rattle.debug_spec.specs.Opening.{IsOpened}
use Rattle.debug_spec.specs.Replay.{bytes_sent}
use Rattle.debug_spec.specs.Schedule.{Session}
use Rattle.debug_spec.specs.Take.{launched_then}
use Rattle.run_control.specs.declared.job.Job.{Job}
use Rattle.ice_emul.specs.Standing.{IsHeld, held, StandsFor}
use Rattle.ice_emul.specs.declared.emulator.Emulator.{Emulator}

-- a launch is answered: each session whose next outcome is that it was made, or denied, goes on by it, with these bytes sent
abbrev pub AnswersLaunch : {F : Type 0} → Flash F → Outcome → (launches : ℕ → ℕ) → Emulator F → Job F → (out : List ℕ) → Emulator F →
    Job F → Type 0
AnswersLaunch flash outcome launches before job out after now =
    (s : Session) (left : List Outcome) → StandsFor flash (held before job) s →
    AreAnswered s.state.device.outcomes (launch outcome ∷ []) left →
    StandsFor flash (held after now) (launched_then s) × ((launched_then s).state.device.outcomes ≡ left) ×
    (bytes_sent (launched_then s).state ≡ bytes_sent s.state ++ out) × ((launched_then s).state.launches ≡ launches s.state.launches) ×
    ((launched_then s).state.device.asked ≡ s.state.device.asked ++ launch outcome ∷ [])

-- it was made: the run is out
pub record Launches {F : Type 0} (flash : Flash F) (part_of : F → Part) (before : Emulator F) (job : Job F) (out : List ℕ)
    (after : Emulator F) : Type 0 where
  pub is : IsHeld part_of after job
  pub mode : after.tool.mode ≡ running
  pub asked : after.tool.stop_asked ≡ before.tool.stop_asked
  pub part : after.tool.plan.part ≡ before.tool.plan.part
  pub answers : AnswersLaunch flash made suc before job out after job

-- it was not: the target is at home again, stopped
pub record DoesNotLaunch {F : Type 0} (flash : Flash F) (part_of : F → Part) (before : Emulator F) (job : Job F) (out : List ℕ)
    (after : Emulator F) : Type 0 where
  pub now : Job F
  pub is : IsHeld part_of after now
  pub flash_stays : now.flash ≡ job.flash
  pub mode : after.tool.mode ≡ stopped
  pub part : after.tool.plan.part ≡ before.tool.plan.part
  pub answers : AnswersLaunch flash denied (λ n. n) before job out after now

-- a session begins: the flash was made the program, and the emulator stands for each opened debugger whose outcomes say so; no page
-- write of the opening failed
pub record Begins {F : Type 0} (flash : Flash F) (part_of : F → Part) (prog : List ℕ) (from : F) (e : Emulator F) : Type 0 where
  pub own : Job F
  pub there : e.target ≡ Some own
  pub mode : e.tool.mode ≡ stopped
  pub received : e.receiver ≡ record { held = []; dropped = 0 }
  pub part : e.tool.plan.part ≡ part_of from
  pub words : flash.words own.flash ≡ prog
  pub asks : List Asked
  pub moved : Moved flash from asks own.flash
  pub leads : (d : Device) (left : List Outcome) → IsFit (chip_of (part_of from)) d → flash.words from ≡ d.words →
      AreAnswered d.outcomes asks left →
      StandsFor flash (held e own) (record { held = []; state = opened (chip_of (part_of from)) prog d }) ×
      ((opened (chip_of (part_of from)) prog d).device ≡ asked_of d (flash.words own.flash) asks left)
  pub opens : (d : Device) (left : List Outcome) → flash.words from ≡ d.words → AreAnswered d.outcomes asks left →
      IsOpened (chip_of (part_of from)) prog d

-- it does not, as a page could not be written
pub record DoesNotOpen {F : Type 0} (flash : Flash F) (part_of : F → Part) (prog : List ℕ) (from to : F) : Type 0 where
  pub asks : List Asked
  pub moved : Moved flash from asks to
  pub leads : (d : Device) (left : List Outcome) → flash.words from ≡ d.words → AreAnswered d.outcomes asks left →
      synced (chip_of (part_of from)) prog d ≡ record { ok = false; device = asked_of d (flash.words to) asks left }
