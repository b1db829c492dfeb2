-- What is kept between two notes: the emulator, its target's job, and what is seen of the runner that has it while a run is out.
use Rattle.std.specs.Prelude.{◌≡◌, ℕ, suc, Bool, true, false, List}
use Rattle.part_spec.specs.declared.part.Part.{Part}
use Rattle.debug_spec.specs.Moved.{Flash}
use Rattle.debug_spec.specs.Debugger.{is_out}
use Rattle.debug_spec.specs.Schedule.{Session}
use Rattle.run_control.specs.Ends.{EndsJob}
use Rattle.run_control.specs.declared.job.Job.{Job}
use Rattle.run_control.specs.declared.runner.Done.{Done}
use Rattle.ice_emul.specs.Standing.{Held, held, IsHeld, IsSoundEmulator, StandsFor}
use Rattle.ice_emul.specs.Taking.{is_launching}
use Rattle.ice_emul.specs.declared.emulator.Emulator.{Emulator}
use Rattle.ice_serve.specs.Carrying.{Place, CarriesBoth}

-- what is seen of a runner: whether a job is out and its stop was raised, what may be given back of it, how many launches worked and how
-- many jobs were given back, and how many launches have failed
pub record Seen (F : Type 0) : Type 1 where
  pub out : Bool
  pub raised : Bool
  pub gives : Done F → Type 0
  pub launches : ℕ
  pub collects : ℕ
  pub faults : ℕ

abbrev pub seen_as : {F : Type 0} → (out raised : Bool) → (Done F → Type 0) → (launches collects faults : ℕ) → Seen F
seen_as out raised gives launches collects faults =
    record { out = out; raised = raised; gives = gives; launches = launches; collects = collects; faults = faults }

-- the runner has this job out, told whether its stop was asked for: what it may give back is an end of it
pub record HasJob {F : Type 0} (flash : Flash F) (part_of : F → Part) (job : Job F) (asked : Bool) (v : Seen F) : Type 0 where
  pub out : v.out ≡ true
  pub due : suc v.collects ≡ v.launches
  pub raised : v.raised ≡ true → asked ≡ true
  pub gives : (done : Done F) → v.gives done → EndsJob flash part_of job done

-- it has none
pub record IsFree {F : Type 0} (v : Seen F) : Type 0 where
  pub free : v.out ≡ false
  pub settled : v.collects ≡ v.launches

abbrev pub HasJobIf : {F : Type 0} → Bool → Flash F → (F → Part) → Job F → Bool → Seen F → Type 0
HasJobIf true flash part_of job asked v = HasJob flash part_of job asked v
HasJobIf false flash part_of job asked v = IsFree v

-- between two notes no launch is unanswered, and the runner has the job of the run that is out
pub record IsKept {F : Type 0} (flash : Flash F) (part_of : F → Part) (e : Emulator F) (job : Job F) (v : Seen F) : Type 0 where
  pub sound : IsSoundEmulator part_of e
  pub held : IsHeld part_of e job
  pub answered : is_launching e.tool.mode ≡ false
  pub runner : HasJobIf (is_out e.tool.mode) flash part_of job e.tool.stop_asked v

-- something is kept
abbrev pub IsPlaced : {F : Type 0} → Flash F → (F → Part) → Emulator F → Seen F → Type 0
IsPlaced {F} flash part_of e v = (job : Job F) × IsKept flash part_of e job v

-- an emulator with its target's job, how many launches worked, and how many failed
abbrev pub place : {F : Type 0} → Emulator F → Job F → Seen F → Place (Held F)
place e job v = record { it = held e job; launches = v.launches; faults = v.faults }

-- it goes on so
abbrev pub GoesOn : {F : Type 0} → Flash F → (Session → Session → Type 0) → Place (Held F) → List ℕ → Place (Held F) → Type 0
GoesOn flash Goes before out after = CarriesBoth flash (λ h. h.job.flash) (StandsFor flash) Goes before out after

-- what is kept goes on so
pub record Continues {F : Type 0} (flash : Flash F) (part_of : F → Part) (Goes : Session → Session → Type 0) (e : Emulator F) (job : Job F)
    (v : Seen F) (out : List ℕ) (e_then : Emulator F) (v_then : Seen F) : Type 0 where
  pub job_then : Job F
  pub kept : IsKept flash part_of e_then job_then v_then
  pub goes : GoesOn flash Goes (place e job v) out (place e_then job_then v_then)
