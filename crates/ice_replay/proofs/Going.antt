-- What a replay keeps is settled, and its steps are joined.
use Rattle.std.proofs.Common.{◌≡◌, ℕ, Bool, true, false, List, ◌++◌, Option, Some, None, refl, sym, ap, ◌∙◌, subst, append_assoc}
use Rattle.std.specs.Prelude.{is_some}
use Rattle.part_spec.specs.declared.part.Part.{Part}
use Rattle.part_spec.specs.Chip.{Chip, chip_of}
use Rattle.debug_spec.specs.Run.{End, end_within}
use Rattle.debug_spec.specs.Device.{Outcome, Asked}
use Rattle.debug_spec.specs.PageLaws.{AreAnswered}
use Rattle.debug_spec.specs.Moved.{Flash}
use Rattle.debug_spec.specs.Debugger.{Mode, stopped, launching, running, programming, leaving, closed, Debugger, is_out, run_out}
use Rattle.debug_spec.specs.Running.{replant_failed}
use Rattle.debug_spec.specs.Replay.{steps_for, ended_if, settled_in, settled, end_now, bytes_sent}
use Rattle.debug_spec.specs.Schedule.{Session}
use Rattle.debug_spec.specs.Carries.{Along}
use Rattle.debug_spec.proofs.MovedLemmas.{flash_moves, answers_go_on}
use Rattle.debug_spec.proofs.Sessions.{end_by_ask}
use Rattle.run_control.specs.declared.inline.Seat.{Seat}
use Rattle.run_control.specs.declared.inline.Seat.TheVariants.{Free, Going, Ended}
use Rattle.run_control.specs.declared.job.Halt.TheVariants.{Forced}
use Rattle.run_control.specs.declared.runner.Done.{Done}
use Rattle.run_control.specs.Ends.{IsGiven, is_taken}
use Rattle.ice_answer.specs.Kept.{ToolState}
use Rattle.ice_emul.specs.Standing.{held}
use Rattle.ice_replay.specs.Keeping.{Place, Waits, WaitsIf, IsKept, Stands, GoesOn}

-- of a job that is out something is given
pub given_of : {F : Type 0} (seat : Seat F) → is_taken seat ≡ true → (done : Done F) × IsGiven seat done
given_of Free h = cc
given_of (Going job) h = (record { job = job; halt = Forced }, refl)
given_of (Ended done) h = (done, refl)

none_there : {T : Type 0} (o : Option T) → is_some o ≡ false → o ≡ None
none_there None h = refl
none_there (Some x) h = cc

-- a run that has no end within its steps, and is not asked to stop, goes on
goes_on_by : (part : Chip) (s : Debugger) (o : Option End) (asked : Bool) (n : ℕ) → o ≡ None → asked ≡ false →
    ended_if true part (end_by_ask o asked n) s ≡ s
goes_on_by part s None false n none still = refl
goes_on_by part s None true n none still = cc
goes_on_by part s (Some e) asked n none still = cc

module _ {F : Type 0} (flash : Flash F) where
  module _ (part_of : F → Part) (p : Place F) (s : Session) (rest : List Outcome) (kept : IsKept flash part_of p) (stands : Stands flash p s)
      (answered : AreAnswered s.state.device.outcomes p.pend rest) where
    abbrev chip : Chip
    chip = chip_of p.emulator.tool.plan.part

    -- a run that is out has not ended
    still_out : is_out s.state.mode ≡ true →
        ended_if true chip (end_now true chip (steps_for p.runner.stops.items s.state.launches) s.state) s.state ≡ s.state
    still_out out =
        let out_there : is_out p.emulator.tool.mode ≡ true = ap (λ (k : ToolState). is_out k.mode) stands.stands.tool ∙ out in
        let waits : Waits flash part_of p = subst (λ (b : Bool). WaitsIf flash part_of b p) out_there kept.seat in
        let given = given_of p.runner.seat waits.taken in
        let come = waits.comes given.0 given.1 (held p.emulator p.job) (record { job = refl; plan = refl; run_to = refl }) in
        let ran = come.leads s rest stands.stands out answered in
        let none : end_within chip (run_out true s.state) (replant_failed s.state) (steps_for p.runner.stops.items p.runner.launches) ≡ None =
        none_there _ ran.is.1 in
        let at : ℕ → Option End = λ n. end_within chip (run_out true s.state) (replant_failed s.state) (steps_for p.runner.stops.items n) in
        goes_on_by chip s.state (at s.state.launches) s.state.stop_asked (steps_for p.runner.stops.items s.state.launches)
        (ap at stands.launches ∙ none) (stands.asked out)

    settled_by : (m : Mode) → s.state.mode ≡ m → settled_in true chip p.runner.stops.items m s.state ≡ s.state
    settled_by stopped is = refl
    settled_by (launching number) is = refl
    settled_by running is = still_out (ap is_out is)
    settled_by programming is = refl
    settled_by leaving is = still_out (ap is_out is)
    settled_by (closed restored) is = refl

    -- what is kept stands for a session in which nothing happens between two items
    pub kept_settled : settled true chip p.runner.stops.items s.state ≡ s.state
    kept_settled = settled_by s.state.mode refl

  -- two ways, one after the other
  pub onward : (Goes Then : Session → Session → Type 0) (a b c : Place F) (out more : List ℕ) → GoesOn flash Goes a out b →
      GoesOn flash Then b more c → GoesOn flash (Along Goes Then) a (out ++ more) c
  onward Goes Then a b c out more first second = record {
    asks = first.asks ++ second.asks;
    moved = (flash_moves flash).onward a.job.flash b.job.flash c.job.flash first.asks second.asks first.moved second.moved;
    begins = (
      first.begins.0 ++ second.begins.0,
      append_assoc first.asks second.asks c.pend ∙ ap (λ (l : List Asked). first.asks ++ l) second.begins.1 ∙
          sym (append_assoc first.asks b.pend second.begins.0) ∙ ap (λ (l : List Asked). l ++ second.begins.0) first.begins.1 ∙
          append_assoc a.pend first.begins.0 second.begins.0,
    );
    leads = λ s left rest stands answered later.
        let parts = answers_go_on.back s.state.device.outcomes left first.asks second.asks answered in
        let all = answers_go_on.onward parts.0 left rest second.asks c.pend parts.2 later in
        let begun = answers_go_on.back parts.0 rest b.pend second.begins.0
        (subst (λ (l : List Asked). AreAnswered parts.0 l rest) second.begins.1 all) in
        let u = first.leads s parts.0 begun.0 stands parts.1 begun.1 in
        let t = second.leads u.0 left rest u.2 (subst (λ (o : List Outcome). AreAnswered o second.asks left) (sym u.3) parts.2) later in (
          t.0,
          (u.0, u.1, t.1),
          t.2,
          t.3,
          t.4 ∙ ap (λ (x : List ℕ). x ++ more) u.4 ∙ append_assoc (bytes_sent s.state) out more,
          t.5 ∙ ap (λ (l : List Asked). l ++ second.asks) u.5 ∙ append_assoc s.state.device.asked first.asks second.asks,
        );
  }

  -- a way with where it stood and stands, and what was sent on it
  pub record Noted (Goes : Session → Session → Type 0) (a : Place F) (out : List ℕ) (b : Place F) (s t : Session) : Type 0 where
    pub goes : Goes s t
    pub from : s.state.mode ≡ a.emulator.tool.mode
    pub to : t.state.mode ≡ b.emulator.tool.mode
    pub sends : bytes_sent t.state ≡ bytes_sent s.state ++ out

  pub noted : (Goes : Session → Session → Type 0) (a b : Place F) (out : List ℕ) → GoesOn flash Goes a out b →
      GoesOn flash (Noted Goes a out b) a out b
  noted Goes a b out h = record {
    asks = h.asks;
    moved = h.moved;
    begins = h.begins;
    leads = λ s left rest stands answered later.
        let t = h.leads s left rest stands answered later in (
          t.0,
          record {
            goes = t.1;
            from = sym (ap (λ (k : ToolState). k.mode) stands.stands.tool);
            to = sym (ap (λ (k : ToolState). k.mode) t.2.stands.tool);
            sends = t.4;
          },
          t.2,
          t.3,
          t.4,
          t.5,
        );
  }

  -- a way may be told with less
  pub weaker : (Goes Then : Session → Session → Type 0) (a b : Place F) (out : List ℕ) → ((s t : Session) → Goes s t → Then s t) →
      GoesOn flash Goes a out b → GoesOn flash Then a out b
  weaker Goes Then a b out w h = record {
    asks = h.asks;
    moved = h.moved;
    begins = h.begins;
    leads = λ s left rest stands answered later.
        let t = h.leads s left rest stands answered later in (t.0, w s t.0 t.1, t.2, t.3, t.4, t.5);
  }
