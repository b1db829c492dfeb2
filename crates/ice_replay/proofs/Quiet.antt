-- A take that launches and ends nothing: what was kept is kept, at home and while a run is out.
use Rattle.std.proofs.Common.{◌≡◌, ℕ, Bool, true, false, List, [], ◌++◌, Option, Some, None, refl, sym, ap, ◌∙◌, subst, append-nil}
use Rattle.std.specs.Prelude.{is_some}
use Rattle.part_spec.specs.declared.part.Part.{Part}
use Rattle.part_spec.specs.Chip.{chip_of}
use Rattle.debug_spec.specs.Device.{Outcome, Asked}
use Rattle.debug_spec.specs.PageLaws.{AreAnswered}
use Rattle.debug_spec.specs.Moved.{Flash}
use Rattle.debug_spec.specs.Debugger.{Mode, stopped, launching, running, programming, leaving, closed, Debugger, is_out, listens}
use Rattle.debug_spec.specs.Running.{launch_in}
use Rattle.debug_spec.specs.Replay.{settled, steps_for}
use Rattle.debug_spec.specs.Schedule.{Session}
use Rattle.debug_spec.specs.Take.{launched_then}
use Rattle.debug_spec.specs.TakeReplays.{settled_then}
use Rattle.debug_spec.proofs.MovedLemmas.{answers_go_on}
use Rattle.run_control.specs.declared.inline.Inline.{Inline}
use Rattle.run_control.specs.declared.job.Job.{Job}
use Rattle.run_control.specs.declared.runner.Done.{Done}
use Rattle.ice_answer.specs.Kept.{ToolState}
use Rattle.ice_emul.specs.Launching.{rests}
use Rattle.ice_emul.specs.Standing.{IsSoundEmulator, Held}
use Rattle.ice_emul.specs.Taking.{DoesCall, KeepsRun, is_launching}
use Rattle.ice_emul.specs.Coming.{ComesTo, EndsBy}
use Rattle.ice_emul.specs.declared.emulator.Emulator.{Emulator}
use Rattle.ice_emul.specs.declared.emulator.Next.{Next}
use Rattle.ice_replay.specs.Keeping.{Place, place, Waits, WaitsIf, IsKept, Stands}
use Rattle.ice_replay.specs.Steps.{Continues, IsStep, TakesSo}
use Rattle.ice_replay.specs.declared.settle.Came.{Came}
use Rattle.ice_replay.proofs.Going.{kept_settled}

out_away : (m : Mode) → is_out m ≡ true → rests m ≡ false
out_away stopped out = cc
out_away (launching number) out = cc
out_away running out = refl
out_away programming out = cc
out_away leaving out = refl
out_away (closed done) out = cc

none_here : {T : Type 0} (o : Option T) → is_some o ≡ false → o ≡ None
none_here None h = refl
none_here (Some x) h = cc

-- where none is prepared no launch is asked for
pub no_launch : (m : Mode) (s : Debugger) → is_launching m ≡ false → launch_in m s ≡ s
no_launch stopped s none = refl
no_launch (launching number) s none = cc
no_launch running s none = refl
no_launch programming s none = refl
no_launch leaving s none = refl
no_launch (closed restored) s none = refl

-- a run that waits does so behind a call that leaves it out
module _ {F : Type 0} (flash : Flash F) (part_of : F → Part) (e now : Emulator F) (r : Inline F) (job : Job F) (pend : List Asked)
    (Goes : Session → Session → Type 0) (out : List ℕ) (next : Next F) (sound : IsSoundEmulator part_of e)
    (sound_now : IsSoundEmulator part_of now) (call : DoesCall flash part_of Goes e job out next now) (out_e : is_out e.tool.mode ≡ true)
    (out_now : is_out now.tool.mode ≡ true) where
  away : (x : Emulator F) → IsSoundEmulator part_of x → is_out x.tool.mode ≡ true → x.target ≡ None
  away x fine out_x = none_here x.target (fine.here ∙ out_away x.tool.mode out_x)

  -- the job stays as it was launched, and nothing is asked
  pub job_stays : call.now ≡ job
  job_stays = call.stays (away e sound out_e) (away now sound_now out_now)

  pub asks_none : call.carries.asks ≡ []
  asks_none = call.mute (away e sound out_e) (away now sound_now out_now)

  abbrev ComesSo : Done F → Held F → Part → Type 0
  ComesSo done h x = ComesTo flash h done (EndsBy (steps_for r.stops.items r.launches) false (chip_of x)) pend

  pub waits_on : KeepsRun e.tool now.tool → Waits flash part_of (place e r job pend) → Waits flash part_of (place now r call.now pend)
  waits_on run w = record {
    taken = w.taken;
    due = w.due;
    own = λ done given. let own = w.own done given in record {
      flash = own.flash ∙ sym call.part;
      core = own.core ∙ ap chip_of (sym call.part);
    };
    comes = λ done given h is_for.
        let come = w.comes done given h (record {
          job = is_for.job ∙ job_stays;
          plan = is_for.plan ∙ run.0;
          run_to = is_for.run_to ∙ run.1;
        }) in
        subst (λ (x : Part). ComesSo done h x) (sym call.part) come;
  }

module _ {F : Type 0} (flash : Flash F) (part_of : F → Part) (e now : Emulator F) (r : Inline F) (job : Job F) (pend : List Asked)
    (Goes : Session → Session → Type 0) (came : Came) (used left_over out : List ℕ) (next : Next F)
    (kept : IsKept flash part_of (place e r job pend)) (sound : IsSoundEmulator part_of now)
    (on : listens e.tool.mode ≡ true) (none_then : is_launching now.tool.mode ≡ false) (same_out : is_out now.tool.mode ≡ is_out e.tool.mode)
    (same : is_out now.tool.mode ≡ true → (now.tool.stop_asked ≡ e.tool.stop_asked) × KeepsRun e.tool now.tool)
    (call : DoesCall flash part_of Goes e job out next now)
    (takes : (s t : Session) → listens s.state.mode ≡ true → Goes s t → TakesSo came (chip_of e.tool.plan.part) used left_over s t) where
  abbrev p : Place F
  p = place e r job pend

  abbrev q : Place F
  q = place now r call.now pend

  waits_then : (b : Bool) → is_out now.tool.mode ≡ b → WaitsIf flash part_of b p → WaitsIf flash part_of b q
  waits_then true is w =
      waits_on flash part_of e now r job pend Goes out next kept.sound sound call (sym same_out ∙ is) is (same is).1 w
  waits_then false is w = record { free = w.free; seen = w.seen; counts = w.counts }

  kept_then : IsKept flash part_of q
  kept_then = record {
    sound = sound;
    held = call.is;
    runner = kept.runner;
    seat = waits_then (is_out now.tool.mode) refl (subst (λ (b : Bool). WaitsIf flash part_of b p) (sym same_out) kept.seat);
  }

  begins_by : (b : Bool) → is_out now.tool.mode ≡ b → WaitsIf flash part_of b p →
      (more : List Asked) × (call.carries.asks ++ pend ≡ pend ++ more)
  begins_by true is w =
      let none = asks_none flash part_of e now r job pend Goes out next kept.sound sound call (sym same_out ∙ is) is in
      ([], ap (λ (l : List Asked). l ++ pend) none ∙ sym (append-nil pend))
  begins_by false is w = (
    call.carries.asks,
    ap (λ (l : List Asked). call.carries.asks ++ l) w.seen ∙ append-nil call.carries.asks ∙
        ap (λ (l : List Asked). l ++ call.carries.asks) (sym w.seen),
  )

  begins : (more : List Asked) × (call.carries.asks ++ pend ≡ pend ++ more)
  begins = begins_by (is_out now.tool.mode) refl (subst (λ (b : Bool). WaitsIf flash part_of b p) (sym same_out) kept.seat)

  pub quiet : Continues flash part_of (IsStep came (chip_of e.tool.plan.part) r.stops.items used left_over) p out now r
  quiet = record {
    job = call.now;
    pend = pend;
    kept = kept_then;
    goes = record {
      asks = call.carries.asks;
      moved = call.carries.moved;
      begins = begins;
      leads = λ s left rest stands answered later.
          let t = call.carries.leads s left stands.stands answered in
          let mode_s : e.tool.mode ≡ s.state.mode = ap (λ (k : ToolState). k.mode) stands.stands.tool in
          let mode_t : now.tool.mode ≡ t.0.state.mode = ap (λ (k : ToolState). k.mode) t.2.tool in
          let stands_t : Stands flash q t.0 = record {
            stands = t.2;
            launches = t.1.1 ∙ stands.launches;
            asked = λ out_t.
                let out_now : is_out now.tool.mode ≡ true = ap is_out mode_t ∙ out_t in
                ap (λ (k : ToolState). k.stop_asked) (sym t.2.tool) ∙ (same out_now).0 ∙
                ap (λ (k : ToolState). k.stop_asked) stands.stands.tool ∙
                stands.asked (ap is_out (sym mode_s) ∙ sym same_out ∙ out_now);
          } in
          let all = answers_go_on.onward s.state.device.outcomes left rest call.carries.asks pend answered later in
          let front = answers_go_on.back s.state.device.outcomes rest pend begins.0
          (subst (λ (l : List Asked). AreAnswered s.state.device.outcomes l rest) begins.1 all) in
          let quiet_s = kept_settled flash part_of p s front.0 kept stands front.1 in
          let quiet_t : settled true (chip_of e.tool.plan.part) r.stops.items t.0.state ≡ t.0.state =
          subst (λ (x : Part). settled true (chip_of x) r.stops.items t.0.state ≡ t.0.state) call.part
          (kept_settled flash part_of q t.0 rest kept_then stands_t
          (subst (λ (o : List Outcome). AreAnswered o pend rest) (sym t.3) later)) in
          let on_s : listens s.state.mode ≡ true = ap listens (sym mode_s) ∙ on in
          let stays : launched_then t.0 ≡ t.0 =
          ap (λ (d : Debugger). record { held = t.0.held; state = d }) (no_launch t.0.state.mode t.0.state (ap is_launching (sym mode_t) ∙ none_then)) in
          let there : settled_then true (chip_of e.tool.plan.part) r.stops.items (launched_then t.0) ≡ t.0 =
          ap (settled_then true (chip_of e.tool.plan.part) r.stops.items) stays ∙
          ap (λ (d : Debugger). record { held = t.0.held; state = d }) quiet_t in (
            t.0,
            record { listening = on_s; quiet = quiet_s; between = t.0; takes = takes s t.0 on_s t.1.0; is = sym there },
            stands_t,
            t.3,
            t.4,
            t.1.2 ∙ ap (λ (l : List Asked). s.state.device.asked ++ l) (sym call.same_asks),
          );
    };
  }
