-- What a replay keeps between two steps: the emulator, the runner that makes a run at its launch, and while a run is out its job as it
-- was launched, with the page writes that the runner has made and the debugger has still to see.
use Rattle.std.specs.Prelude.{◌≡◌, ◌<◌, ◌≤◌, ℕ, Bool, true, false, List, [], ◌++◌}
use Rattle.part_spec.specs.declared.part.Part.{Part}
use Rattle.part_spec.specs.Chip.{chip_of}
use Rattle.debug_spec.specs.Device.{Outcome, Asked}
use Rattle.debug_spec.specs.PageLaws.{AreAnswered}
use Rattle.debug_spec.specs.Moved.{Flash, Moved}
use Rattle.debug_spec.specs.Debugger.{is_out}
use Rattle.debug_spec.specs.Replay.{steps_for, bytes_sent}
use Rattle.debug_spec.specs.Schedule.{Session}
use Rattle.run_control.specs.Ends.{IsGiven, IsSoundInline, is_taken}
use Rattle.run_control.specs.declared.inline.Inline.{Inline}
use Rattle.run_control.specs.declared.job.Job.{Job}
use Rattle.run_control.specs.declared.runner.Done.{Done}
use Rattle.ice_emul.specs.Launching.{IsOwn}
use Rattle.ice_emul.specs.Standing.{Held, held, IsHeld, IsSoundEmulator, StandsFor}
use Rattle.ice_emul.specs.Taking.{Asks}
use Rattle.ice_emul.specs.Coming.{IsForRun, ComesTo, EndsBy}
use Rattle.ice_emul.specs.declared.emulator.Emulator.{Emulator}

-- an emulator with its runner, its target's job, and the page writes that are still to be seen
pub record Place (F : Type 0) : Type 0 where
  pub emulator : Emulator F
  pub runner : Inline F
  pub job : Job F
  pub pend : List Asked

abbrev pub place : {F : Type 0} → Emulator F → Inline F → Job F → List Asked → Place F
place emulator runner job pend = record { emulator = emulator; runner = runner; job = job; pend = pend }

-- what the runner would give of the run that is out has come to the end of it within its steps, or is forced behind them
abbrev pub ComesByNumber : {F : Type 0} → Flash F → Place F → Done F → Bool → Type 0
ComesByNumber {F} flash p done by_itself = (h : Held F) → IsForRun p.emulator.tool p.job h →
    ComesTo flash h done (EndsBy (steps_for p.runner.stops.items p.runner.launches) by_itself (chip_of p.emulator.tool.plan.part)) p.pend

-- a run is out, which does not end within its steps by itself
pub record Waits {F : Type 0} (flash : Flash F) (part_of : F → Part) (p : Place F) : Type 0 where
  pub taken : is_taken p.runner.seat ≡ true
  pub due : p.runner.collects < p.runner.launches
  pub own : (done : Done F) → IsGiven p.runner.seat done → IsOwn part_of p.emulator.tool done.job
  pub comes : (done : Done F) → IsGiven p.runner.seat done → ComesByNumber flash p done false

-- none is, and nothing is still to be seen
pub record Rests {F : Type 0} (p : Place F) : Type 0 where
  pub free : is_taken p.runner.seat ≡ false
  pub seen : p.pend ≡ []
  pub counts : p.runner.collects ≤ p.runner.launches

abbrev pub WaitsIf : {F : Type 0} → Flash F → (F → Part) → Bool → Place F → Type 0
WaitsIf flash part_of true p = Waits flash part_of p
WaitsIf flash part_of false p = Rests p

-- between two steps
pub record IsKept {F : Type 0} (flash : Flash F) (part_of : F → Part) (p : Place F) : Type 0 where
  pub sound : IsSoundEmulator part_of p.emulator
  pub held : IsHeld part_of p.emulator p.job
  pub runner : IsSoundInline p.runner.stops.items p.runner.seat
  pub seat : WaitsIf flash part_of (is_out p.emulator.tool.mode) p

-- it stands for a session whose launches the runner has counted, and in which no stop is asked for
pub record Stands {F : Type 0} (flash : Flash F) (p : Place F) (s : Session) : Type 0 where
  pub stands : StandsFor flash (held p.emulator p.job) s
  pub launches : s.state.launches ≡ p.runner.launches
  pub asked : is_out s.state.mode ≡ true → s.state.stop_asked ≡ false

-- there are asks by which the flash moved, which with those still to be seen begin with those that were; and each session for which it
-- stood, whose outcomes answer them, goes on so to one for which it stands then, with these bytes sent and the other outcomes left
pub record GoesOn {F : Type 0} (flash : Flash F) (Goes : Session → Session → Type 0) (before : Place F) (out : List ℕ) (after : Place F) :
    Type 0 where
  pub asks : List Asked
  pub moved : Moved flash before.job.flash asks after.job.flash
  pub begins : (more : List Asked) × (asks ++ after.pend ≡ before.pend ++ more)
  pub leads : (s : Session) (left rest : List Outcome) → Stands flash before s → AreAnswered s.state.device.outcomes asks left →
      AreAnswered left after.pend rest →
      (t : Session) × Goes s t × Stands flash after t × (t.state.device.outcomes ≡ left) ×
      (bytes_sent t.state ≡ bytes_sent s.state ++ out) × Asks asks s t
