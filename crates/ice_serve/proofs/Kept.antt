-- What is kept between two notes, and what stays behind a call.
use Rattle.std.proofs.Common.{◌≡◌, ℕ, Bool, true, false, List, Option, Some, None, refl, sym, ap, ◌∙◌, subst}
use Rattle.std.specs.Prelude.{is_some}
use Rattle.part_spec.specs.declared.part.Part.{Part}
use Rattle.debug_spec.specs.Moved.{Flash}
use Rattle.debug_spec.specs.Debugger.{Mode, stopped, launching, running, programming, leaving, closed, listens, is_out}
use Rattle.debug_spec.specs.Running.{launch_if_prepared}
use Rattle.debug_spec.specs.Schedule.{Session}
use Rattle.debug_spec.proofs.TakeChunks.{no_launch}
use Rattle.run_control.specs.Ends.{EndsJob}
use Rattle.run_control.specs.declared.job.Job.{Job}
use Rattle.run_control.specs.declared.runner.Done.{Done}
use Rattle.ice_answer.specs.Kept.{ToolState}
use Rattle.ice_emul.specs.Launching.{rests, IsOwn}
use Rattle.ice_emul.specs.Standing.{IsHeld, IsJob, IsLaunched, IsSoundEmulator, StandsFor}
use Rattle.ice_emul.specs.Taking.{DoesCall, is_launching}
use Rattle.ice_emul.specs.declared.emulator.Emulator.{Emulator}
use Rattle.ice_emul.specs.declared.emulator.Next.{Next}
use Rattle.ice_serve.specs.Carrying.{Stands}
use Rattle.ice_serve.specs.Keeping.{Seen, HasJob, IsFree, HasJobIf, IsKept, place}

pub never : (b : Bool) → b ≡ true → b ≡ false → ⊥
never true on off = cc
never false on off = cc

pub out_away : (m : Mode) → is_out m ≡ true → rests m ≡ false
out_away stopped out = cc
out_away (launching number) out = cc
out_away running out = refl
out_away programming out = cc
out_away leaving out = refl
out_away (closed done) out = cc

none_here : {T : Type 0} (o : Option T) → is_some o ≡ false → o ≡ None
none_here None h = refl
none_here (Some x) h = cc

not_launching : (m : Mode) → is_launching m ≡ false → (number : ℕ) → m ≡ launching number → ⊥
not_launching m none number is = absurd (never (is_launching m) (ap is_launching is) none)

pub out_answered : (m : Mode) → is_out m ≡ true → is_launching m ≡ false
out_answered stopped out = refl
out_answered (launching number) out = cc
out_answered running out = refl
out_answered programming out = refl
out_answered leaving out = refl
out_answered (closed done) out = refl

pub listens_answered : (m : Mode) → listens m ≡ true → is_launching m ≡ false
listens_answered stopped out = refl
listens_answered (launching number) out = cc
listens_answered running out = refl
listens_answered programming out = refl
listens_answered leaving out = refl
listens_answered (closed done) out = refl

module _ {F : Type 0} (flash : Flash F) where
  -- the mode of a session for which it stands
  pub mode_in : (e : Emulator F) (job : Job F) (v : Seen F) (s : Session) → Stands (StandsFor flash) (place e job v) s →
      s.state.mode ≡ e.tool.mode
  mode_in e job v s stands = sym (ap (λ (k : ToolState). k.mode) stands.stands.tool)

  -- no launch is unanswered
  pub none_prepared : (e : Emulator F) (job : Job F) (v : Seen F) (s : Session) → is_launching e.tool.mode ≡ false →
      Stands (StandsFor flash) (place e job v) s → launch_if_prepared s.state ≡ s.state
  none_prepared e job v s none stands =
      no_launch s.state.mode s.state (not_launching s.state.mode (ap is_launching (mode_in e job v s stands) ∙ none))

  module _ (part_of : F → Part) where
    pub has_job : (e : Emulator F) (job : Job F) (v : Seen F) → IsKept flash part_of e job v → is_out e.tool.mode ≡ true →
        HasJob flash part_of job e.tool.stop_asked v
    has_job e job v kept out = subst (λ (b : Bool). HasJobIf b flash part_of job e.tool.stop_asked v) out kept.runner

    pub is_free : (e : Emulator F) (job : Job F) (v : Seen F) → IsKept flash part_of e job v → is_out e.tool.mode ≡ false → IsFree v
    is_free e job v kept home = subst (λ (b : Bool). HasJobIf b flash part_of job e.tool.stop_asked v) home kept.runner

    away : (e : Emulator F) → IsSoundEmulator part_of e → is_out e.tool.mode ≡ true → e.target ≡ None
    away e sound out = none_here e.target (sound.here ∙ out_away e.tool.mode out)

    -- the job of a run that is out was launched for it
    pub launched_job : (e : Emulator F) (job : Job F) (v : Seen F) → IsKept flash part_of e job v → is_out e.tool.mode ≡ true →
        IsLaunched part_of e.tool job
    launched_job e job v kept out =
        subst (λ (o : Option (Job F)). IsJob part_of o e.tool job) (away e kept.sound out) kept.held

    -- an end of it is of the program's part
    pub own_done : (e : Emulator F) (job : Job F) (v : Seen F) (done : Done F) → IsKept flash part_of e job v → is_out e.tool.mode ≡ true →
        EndsJob flash part_of job done → IsOwn part_of e.tool done.job
    own_done e job v done kept out ends =
        let launched = launched_job e job v kept out in
        record { flash = ends.flash_part ∙ launched.flash; core = ends.core_part ∙ launched.core }

    module _ (e mid : Emulator F) (job : Job F) (v now : Seen F) (Goes : Session → Session → Type 0) (out : List ℕ) (next : Next F)
        (kept : IsKept flash part_of e job v) (sound : IsSoundEmulator part_of mid) (call : DoesCall flash part_of Goes e job out next mid) where
      job_stays : is_out e.tool.mode ≡ true → is_out mid.tool.mode ≡ true → call.now ≡ job
      job_stays out_e out_mid = call.stays (away e kept.sound out_e) (away mid sound out_mid)

      -- a run stays out
      pub kept_out : is_out e.tool.mode ≡ true → is_out mid.tool.mode ≡ true → HasJob flash part_of job mid.tool.stop_asked now →
          IsKept flash part_of mid call.now now
      kept_out out_e out_mid has = record {
        sound = sound;
        held = call.is;
        answered = out_answered mid.tool.mode out_mid;
        runner = subst (λ (b : Bool). HasJobIf b flash part_of call.now mid.tool.stop_asked now) (sym out_mid)
            (subst (λ (j : Job F). HasJob flash part_of j mid.tool.stop_asked now) (sym (job_stays out_e out_mid)) has);
      }

      -- or none is
      pub kept_home : is_out mid.tool.mode ≡ false → is_launching mid.tool.mode ≡ false → IsFree now → IsKept flash part_of mid call.now now
      kept_home home answered free = record {
        sound = sound;
        held = call.is;
        answered = answered;
        runner = subst (λ (b : Bool). HasJobIf b flash part_of call.now mid.tool.stop_asked now) (sym home) free;
      }

-- the job of a run that is prepared
pub launched_held : {F : Type 0} (part_of : F → Part) (e : Emulator F) (job : Job F) → IsSoundEmulator part_of e →
    is_launching e.tool.mode ≡ true → IsLaunched part_of e.tool job → IsHeld part_of e job
launched_held {F} part_of e job sound prepared launched =
    subst (λ (o : Option (Job F)). IsJob part_of o e.tool job)
    (sym (none_there e.target (sound.here ∙ launching_away e.tool.mode prepared))) launched
  where
    none_there : {T : Type 0} (o : Option T) → is_some o ≡ false → o ≡ None
    none_there None h = refl
    none_there (Some x) h = cc

    launching_away : (m : Mode) → is_launching m ≡ true → rests m ≡ false
    launching_away stopped h = cc
    launching_away (launching number) h = refl
    launching_away running h = cc
    launching_away programming h = cc
    launching_away leaving h = cc
    launching_away (closed restored) h = cc
