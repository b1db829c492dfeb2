-- What one step does, by what is to be done behind its take.
use Rattle.std.proofs.Common.{◌≡◌, ◌≤◌, ◌+◌, ℕ, suc, Bool, true, false, List, [], ◌++◌, Result, refl, sym, ap, ◌∙◌, subst, arith, append-nil}
use Rattle.std.specs.Prelude.{⊤}
use Rattle.part_spec.specs.declared.part.Part.{Part}
use Rattle.part_spec.specs.Chip.{Chip, chip_of}
use Rattle.debug_spec.specs.Device.{made, denied}
use Rattle.debug_spec.specs.Moved.{Flash}
use Rattle.debug_spec.specs.Debugger.{Debugger, Mode, stopped, launching, running, programming, leaving, closed, listens, is_out}
use Rattle.debug_spec.specs.Schedule.{Session}
use Rattle.debug_spec.specs.Carries.{Along}
use Rattle.debug_spec.specs.Take.{TakesNone, launched_then}
use Rattle.debug_spec.proofs.Sessions.{EitherBy}
use Rattle.flash_patch.specs.declared.plan.FlashFault.{FlashFault}
use Rattle.run_control.specs.declared.job.Job.{Job}
use Rattle.run_control.specs.declared.runner.Done.{Done}
use Rattle.run_control.specs.Ends.{EndsJob}
use Rattle.ice_emul.specs.Standing.{held, IsSoundEmulator, StandsFor}
use Rattle.ice_emul.specs.Session.{Launches, DoesNotLaunch}
use Rattle.ice_emul.specs.Taking.{DoesCall, NextStands, StaysOut, TakesBy, is_launching, takes_line}
use Rattle.ice_emul.specs.declared.emulator.Emulator.{Emulator}
use Rattle.ice_emul.specs.declared.emulator.Next.{Next}
use Rattle.ice_emul.specs.declared.emulator.Next.TheVariants.{Idle, Answered, Launch, RaiseStop, Closed as Closes}
use Rattle.ice_serve.specs.Carrying.{Stands}
use Rattle.ice_serve.specs.Keeping.{Seen, HasJob, IsFree, HasJobIf, IsKept, place, GoesOn, Continues}
use Rattle.ice_serve.specs.Steps.{StartsBy, Starts, TakesSo, IsStep}
use Rattle.ice_serve.specs.declared.step.Came.{Came}
use Rattle.ice_serve.specs.declared.step.Came.TheVariants.{Nothing, Frame, Closed}
use Rattle.ice_serve.proofs.Carrying.{carries_onward, carries_said, carries_none, carries_of, carries_launch}
use Rattle.ice_serve.proofs.Kept.{mode_in, none_prepared, has_job, is_free, kept_out, kept_home, listens_answered}

-- the debugger takes its line behind such a mode
pub listens_takes : (m : Mode) → listens m ≡ true → takes_line m ≡ true
listens_takes stopped h = refl
listens_takes (launching number) h = cc
listens_takes running h = refl
listens_takes programming h = refl
listens_takes leaving h = cc
listens_takes (closed restored) h = cc

pub out_takes : (m : Mode) → is_out m ≡ true → takes_line m ≡ true
out_takes stopped h = cc
out_takes (launching number) h = cc
out_takes running h = refl
out_takes programming h = cc
out_takes leaving h = refl
out_takes (closed restored) h = cc

pub takes_answered : (m : Mode) → takes_line m ≡ true → is_launching m ≡ false
takes_answered stopped h = refl
takes_answered (launching number) h = cc
takes_answered running h = refl
takes_answered programming h = refl
takes_answered leaving h = refl
takes_answered (closed restored) h = refl

-- a debugger that does not listen ignores the bytes
pub deaf_step : {F : Type 0} (flash : Flash F) (part_of : F → Part) (e : Emulator F) (job : Job F) (v : Seen F)
    (used left_over out : List ℕ) → IsKept flash part_of e job v → listens e.tool.mode ≡ false → left_over ≡ [] → out ≡ [] →
    Continues flash part_of (IsStep Nothing (chip_of e.tool.plan.part) used left_over) e job v out e v
deaf_step {F} flash part_of e job v used left_over out kept deaf none silent = record {
  job_then = job;
  kept = kept;
  goes = subst (λ (l : List ℕ). GoesOn flash (IsStep Nothing (chip_of e.tool.plan.part) used left_over) (place e job v) l (place e job v)) (sym silent)
      (carries_said flash (λ h. h.job.flash) (StandsFor flash) (λ s t. t ≡ s) (IsStep Nothing (chip_of e.tool.plan.part) used left_over) (place e job v) (place e job v) [] ignored
      (carries_none flash (λ h. h.job.flash) (StandsFor flash) (held e job) v.launches v.faults v.faults (omega arith)));
}
  where
    ignored : (s t : Session) → Stands (StandsFor flash) (place e job v) s → Stands (StandsFor flash) (place e job v) t → t ≡ s →
        IsStep Nothing (chip_of e.tool.plan.part) used left_over s t
    ignored s t before after same = record {
      between = s;
      takes = subst (λ (b : Bool). EitherBy b (TakesNone used left_over s s) ((left_over ≡ []) × (s ≡ s)))
          (sym (ap listens (mode_in flash e job v s before) ∙ deaf)) (none, refl);
      is = same ∙ sym (ap (λ (d : Debugger). record { held = s.held; state = d }) (none_prepared flash e job v s kept.answered before));
    }

module _ {F : Type 0} (flash : Flash F) (part_of : F → Part) (e mid : Emulator F) (job : Job F) (v : Seen F) (next : Next F)
    (used left_over out okay : List ℕ) (kept : IsKept flash part_of e job v) (sound : IsSoundEmulator part_of mid)
    (stands : NextStands flash part_of next e mid) (stays : StaysOut next e.tool.mode mid.tool.mode)
    (call : DoesCall flash part_of (TakesBy next (chip_of e.tool.plan.part) used left_over) e job out next mid) where
  abbrev chip : Chip
  chip = chip_of e.tool.plan.part

  abbrev Stood : Next F → Type 0
  Stood n = NextStands flash part_of n e mid

  abbrev Stayed : Next F → Type 0
  Stayed n = StaysOut n e.tool.mode mid.tool.mode

  abbrev Called : Next F → Type 0
  Called n = DoesCall flash part_of (TakesBy n chip used left_over) e job out n mid

  abbrev Step : Came → Session → Session → Type 0
  Step came = IsStep came chip used left_over

  -- a take that launches nothing, with what is kept behind it
  still : (came : Came) (n : Next F) (c : Called n) (now : Seen F) → now.launches ≡ v.launches → v.faults ≤ now.faults →
      IsKept flash part_of mid c.now now →
      ((s t : Session) → TakesBy n chip used left_over s t → TakesSo came chip used left_over s t) → okay ≡ [] →
      Continues flash part_of (Step came) e job v (out ++ okay) mid now
  still came n c now counted less kept_then says none = record {
    job_then = c.now;
    kept = kept_then;
    goes = subst (λ (x : List ℕ). GoesOn flash (Step came) (place e job v) x (place mid c.now now))
        (sym (ap (λ (x : List ℕ). out ++ x) none ∙ append-nil out))
        (subst (λ (k : ℕ). GoesOn flash (Step came) (place e job v) out (record { it = held mid c.now; launches = k; faults = now.faults }))
        (sym counted)
        (carries_said flash (λ h. h.job.flash) (StandsFor flash) (TakesBy n chip used left_over) (Step came) (place e job v)
        (record { it = held mid c.now; launches = v.launches; faults = now.faults }) out
        (λ s t before after takes. record {
          between = t;
          takes = says s t takes;
          is = sym (ap (λ d. record { held = t.held; state = d }) (none_prepared flash mid c.now (record v { faults = now.faults }) t kept_then.answered
              (record { stands = after.stands; launches = after.launches })));
        })
        (carries_of flash (λ h. h.job.flash) (StandsFor flash) (TakesBy n chip used left_over) c.asks (held e job) (held mid c.now)
        v.launches v.faults now.faults out less c.carries c.same_asks)));
  }

  -- a run that is out stays out, with the same runner
  same_out : (n : Next F) (c : Called n) → is_out e.tool.mode ≡ true → is_out mid.tool.mode ≡ true →
      mid.tool.stop_asked ≡ e.tool.stop_asked → IsKept flash part_of mid c.now v
  same_out n c out_e out_mid asked =
      kept_out flash part_of e mid job v v (TakesBy n chip used left_over) out n kept sound c out_e out_mid
      (subst (λ (b : Bool). HasJob flash part_of job b v) (sym asked) (has_job flash part_of e job v kept out_e))

  same_home : (n : Next F) (c : Called n) → is_out e.tool.mode ≡ false → is_out mid.tool.mode ≡ false → is_launching mid.tool.mode ≡ false →
      IsKept flash part_of mid c.now v
  same_home n c home_e home_mid answered =
      kept_home flash part_of e mid job v v (TakesBy n chip used left_over) out n kept sound c home_mid answered
      (is_free flash part_of e job v kept home_e)

  -- nothing came to wait
  pub idle_step : next ≡ Idle → okay ≡ [] → Continues flash part_of (Step Nothing) e job v (out ++ okay) mid v
  idle_step is none =
      let stood : Stood Idle = subst Stood is stands in
      let c : Called Idle = subst Called is call in
      let by_out : (b : Bool) → is_out e.tool.mode ≡ b → IsKept flash part_of mid c.now v =
      elim [
        | true ↦ λ o. same_out Idle c o (ap is_out stood.0 ∙ o) stood.1
        | false ↦ λ o. same_home Idle c o (ap is_out stood.0 ∙ o) (ap is_launching stood.0 ∙ kept.answered)
      ] in
      still Nothing Idle c v refl (omega arith) (by_out (is_out e.tool.mode) refl) (λ s t takes. takes) none

  -- a frame was answered
  pub answered_step : next ≡ Answered → okay ≡ [] → Continues flash part_of (Step Frame) e job v (out ++ okay) mid v
  answered_step is none =
      let stood : Stood Answered = subst Stood is stands in
      let stayed : Stayed Answered = subst Stayed is stays in
      let c : Called Answered = subst Called is call in
      let by_out : (b : Bool) → is_out mid.tool.mode ≡ b → IsKept flash part_of mid c.now v =
      elim [
        | true ↦ λ o. same_out Answered c (stood.1 o).0 o (stood.1 o).1
        | false ↦ λ o. same_home Answered c (not_out (is_out e.tool.mode) stayed o) o (listens_answered mid.tool.mode stood.0)
      ] in
      still Frame Answered c v refl (omega arith) (by_out (is_out mid.tool.mode) refl) (λ s t takes. (takes.0, takes.1.0)) none
    where
      not_out : (b : Bool) → (b ≡ true → is_out mid.tool.mode ≡ true) → is_out mid.tool.mode ≡ false → b ≡ false
      not_out true h o = sym (h refl) ∙ o
      not_out false h o = refl

  -- the session is closed
  pub closed_step : (restored : Result ⊤ FlashFault) → next ≡ Closes restored → okay ≡ [] →
      Continues flash part_of (Step (Closed restored)) e job v (out ++ okay) mid v
  closed_step restored is none =
      let stood : Stood (Closes restored) = subst Stood is stands in
      let stayed : Stayed (Closes restored) = subst Stayed is stays in
      let c : Called (Closes restored) = subst Called is call in
      still (Closed restored) (Closes restored) c v refl (omega arith)
      (same_home (Closes restored) c stayed (ap is_out stood) (ap is_launching stood)) (λ s t takes. takes) none

  -- the run that is out is asked to stop
  pub raised_step : next ≡ RaiseStop → okay ≡ [] → (now : Seen F) → now.out ≡ true →
      ((done : Done F) → now.gives done → v.gives done) → now.launches ≡ v.launches → now.collects ≡ v.collects → v.faults ≤ now.faults →
      Continues flash part_of (Step Frame) e job v (out ++ okay) mid now
  raised_step is none now out_now gives launches collects less =
      let stood : Stood RaiseStop = subst Stood is stands in
      let c : Called RaiseStop = subst Called is call in
      let has = has_job flash part_of e job v kept stood.2 in
      still Frame RaiseStop c now launches less
      (kept_out flash part_of e mid job v now (TakesBy {F = F} RaiseStop chip used left_over) out RaiseStop kept sound c stood.2 stood.0 (record {
        out = out_now;
        due = ap suc collects ∙ has.due ∙ sym launches;
        raised = λ raised. stood.1;
        gives = λ done given. has.gives done (gives done given);
      })) (λ s t takes. (takes.0, takes.1.0)) none

  -- a job is launched, or refused
  module _ (own : Job F) (is : next ≡ Launch own) (after : Emulator F) (now : Seen F) (sound_after : IsSoundEmulator part_of after)
      (starts : Starts flash part_of mid own v okay after now) where
    stayed : Stayed (Launch own)
    stayed = subst Stayed is stays

    c : Called (Launch own)
    c = subst Called is call

    pub free_before : IsFree v
    free_before = is_free flash part_of e job v kept stayed

    abbrev Takes : Session → Session → Type 0
    Takes = TakesBy (Launch own) chip used left_over

    abbrev Launched : Session → Session → Type 0
    Launched s t = t ≡ launched_then s

    first : GoesOn flash Takes (place e job v) out (place mid c.now v)
    first = carries_of flash (λ h. h.job.flash) (StandsFor flash) Takes c.asks (held e job) (held mid c.now) v.launches v.faults v.faults out
        (omega arith) c.carries c.same_asks

    says : (s t : Session) → Along Takes Launched s t → Step Frame s t
    says s t h = record { between = h.0; takes = h.1; is = h.2 }

    both : (then_job : Job F) → GoesOn flash Launched (place mid c.now v) okay (place after then_job now) →
        GoesOn flash (Step Frame) (place e job v) (out ++ okay) (place after then_job now)
    both then_job second =
        carries_said flash (λ h. h.job.flash) (StandsFor flash) (Along Takes Launched) (Step Frame) (place e job v) (place after then_job now)
        (out ++ okay) (λ s t before behind h. says s t h)
        (carries_onward flash (λ h. h.job.flash) (StandsFor flash) Takes Launched (place e job v) (place mid c.now v)
        (place after then_job now) out okay first second)

    by_worked : (worked : Bool) → StartsBy worked flash part_of mid own v okay after now →
        Continues flash part_of (Step Frame) e job v (out ++ okay) after now
    by_worked true how =
        let l : Launches flash part_of mid c.now okay after =
        subst (λ (j : Job F). Launches flash part_of mid j okay after) (sym c.tells.0) how.0 in
        record {
          job_then = c.now;
          kept = record {
            sound = sound_after;
            held = l.is;
            answered = ap is_launching l.mode;
            runner = subst (λ (b : Bool). HasJobIf b flash part_of c.now after.tool.stop_asked now) (sym (ap is_out l.mode)) (record {
              out = how.1.out;
              due = how.1.due;
              raised = λ raised. absurd (no (how.1.raised raised));
              gives = subst (λ (j : Job F). (done : Done F) → now.gives done → EndsJob flash part_of j done) (sym c.tells.0) how.1.gives;
            });
          };
          goes = both c.now (subst (λ (n : ℕ). GoesOn flash Launched (place mid c.now v) okay
              (record { it = held after c.now; launches = n; faults = now.faults })) (sym how.2)
              (carries_launch flash (λ h. h.job.flash) (StandsFor flash) made suc (held mid c.now) (held after c.now) v.launches v.faults
              now.faults okay how.3 refl l.answers));
        }
      where
        no : false ≡ true → ⊥
        no e = cc
    by_worked false how =
        let l : DoesNotLaunch flash part_of mid c.now okay after =
        subst (λ (j : Job F). DoesNotLaunch flash part_of mid j okay after) (sym c.tells.0) how.0 in
        record {
          job_then = l.now;
          kept = record {
            sound = sound_after;
            held = l.is;
            answered = ap is_launching l.mode;
            runner = subst (λ (b : Bool). HasJobIf b flash part_of l.now after.tool.stop_asked now) (sym (ap is_out l.mode)) how.1;
          };
          goes = both l.now (subst (λ (n : ℕ). GoesOn flash Launched (place mid c.now v) okay
              (record { it = held after l.now; launches = n; faults = now.faults })) (sym how.2)
              (carries_launch flash (λ h. h.job.flash) (StandsFor flash) denied (λ n. n) (held mid c.now) (held after l.now) v.launches
              v.faults now.faults okay how.3 l.flash_stays l.answers));
        }

    pub launched_step : Continues flash part_of (Step Frame) e job v (out ++ okay) after now
    launched_step = by_worked starts.worked starts.how
