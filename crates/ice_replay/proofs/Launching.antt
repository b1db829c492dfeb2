-- A take that launches a run, which does not end within its steps.
use Rattle.std.proofs.Common.{◌≡◌, ℕ, suc, Bool, true, false, List, [], ◌∷◌, ◌++◌, length, refl, sym, ap, ◌∙◌, subst, append_assoc}
use Rattle.part_spec.specs.declared.part.Part.{Part}
use Rattle.part_spec.specs.Chip.{Chip, chip_of}
use Rattle.debug_spec.specs.Device.{Outcome, made, Asked, launch}
use Rattle.debug_spec.specs.PageLaws.{AreAnswered}
use Rattle.debug_spec.specs.Moved.{Flash}
use Rattle.debug_spec.specs.Debugger.{Mode, stopped, launching, running, programming, leaving, closed, Debugger, is_out, listens, dropping}
use Rattle.debug_spec.specs.Commands.{item}
use Rattle.debug_spec.specs.Replay.{settled, bytes_sent}
use Rattle.debug_spec.specs.Schedule.{Session}
use Rattle.debug_spec.specs.Take.{goes_on, Leaves, TakesFrame, launched_then}
use Rattle.debug_spec.proofs.EventLemmas.{stops_are_asked}
use Rattle.debug_spec.proofs.MovedLemmas.{flash_moves, answers_go_on}
use Rattle.run_control.specs.declared.inline.Inline.{Inline}
use Rattle.run_control.specs.declared.job.Job.{Job}
use Rattle.ice_answer.specs.Kept.{ToolState}
use Rattle.ice_emul.specs.Session.{Launches}
use Rattle.ice_emul.specs.Taking.{DoesCall, is_launching}
use Rattle.ice_emul.specs.declared.emulator.Emulator.{Emulator}
use Rattle.ice_emul.specs.declared.emulator.Next.{Next}
use Rattle.ice_replay.specs.Keeping.{place, WaitsIf, IsKept, Stands}
use Rattle.ice_replay.specs.Steps.{Continues, IsStep}
use Rattle.ice_replay.specs.declared.settle.Came.TheVariants.{Frame}
use Rattle.ice_replay.proofs.Going.{kept_settled}

launching_some : (m : Mode) → is_launching m ≡ true → (number : ℕ) × (m ≡ launching number)
launching_some stopped h = cc
launching_some (launching number) h = (number, refl)
launching_some running h = cc
launching_some programming h = cc
launching_some leaving h = cc
launching_some (closed restored) h = cc

not_launching : (m : Mode) (other : ℕ) → listens m ≡ true → m ≡ launching other → ⊥
not_launching m other on is = absurd (no_listener (sym (ap listens is) ∙ on))
  where
    no_listener : false ≡ true → ⊥
    no_listener h = cc

-- what is dropped behind a frame changes neither the mode nor whether a stop is asked for
left_same : (b : Bool) (behind : List ℕ) (s : Debugger) (after : Session) → Leaves b behind s after →
    (after.state.mode ≡ s.mode) × (after.state.stop_asked ≡ s.stop_asked)
left_same true behind s after h = (ap (λ (d : Debugger). d.mode) h.3, ap (λ (d : Debugger). d.stop_asked) h.3)
left_same false behind s after h = (ap (λ (x : Session). x.state.mode) h, ap (λ (x : Session). x.state.stop_asked) h)

-- a run that a frame has prepared has no stop asked for
prepared_clean : (part : Chip) (used : List ℕ) (s t : Session) → listens s.state.mode ≡ true → is_launching t.state.mode ≡ true →
    TakesFrame true part used s t → t.state.stop_asked ≡ false
prepared_clean part used s t on prepared f =
    let d : Debugger = dropping (length f.ahead) s.state in
    let same = left_same (goes_on (item true part f.heard d).mode) f.behind (item true part f.heard d) t f.leaves in
    let number = launching_some t.state.mode prepared in
    same.1 ∙ stops_are_asked.prepared true part f.heard d number.0 (λ other is. not_launching s.state.mode other on is)
    (sym same.0 ∙ number.1)

module _ {F : Type 0} (flash : Flash F) (part_of : F → Part) (e mid now : Emulator F) (r ran : Inline F) (job : Job F)
    (pend later_pend : List Asked) (Goes : Session → Session → Type 0) (used left_over out okay : List ℕ) (next : Next F)
    (kept : IsKept flash part_of (place e r job pend)) (home : is_out e.tool.mode ≡ false) (on : listens e.tool.mode ≡ true)
    (prepared : is_launching mid.tool.mode ≡ true) (call : DoesCall flash part_of Goes e job out next mid)
    (takes : (s t : Session) → Goes s t → TakesFrame true (chip_of e.tool.plan.part) used s t)
    (launches : Launches flash part_of mid call.now okay now) (kept_then : IsKept flash part_of (place now ran call.now later_pend))
    (counted : ran.launches ≡ suc r.launches) (stops : ran.stops.items ≡ r.stops.items) where
  seen : pend ≡ []
  seen = (subst (λ (b : Bool). WaitsIf flash part_of b (place e r job pend)) home kept.seat).seen

  pub launched_waits : Continues flash part_of (IsStep Frame (chip_of e.tool.plan.part) r.stops.items used left_over) (place e r job pend)
      (out ++ okay) now ran
  launched_waits = record {
    job = call.now;
    pend = later_pend;
    kept = kept_then;
    goes = record {
      asks = call.carries.asks ++ launch made ∷ [];
      moved = (flash_moves flash).onward job.flash call.now.flash call.now.flash call.carries.asks (launch made ∷ []) call.carries.moved
          (refl, refl);
      begins = (
        (call.carries.asks ++ launch made ∷ []) ++ later_pend,
        ap (λ (l : List Asked). l ++ ((call.carries.asks ++ launch made ∷ []) ++ later_pend)) (sym seen),
      );
      leads = λ s left rest stands answered later.
          let parts = answers_go_on.back s.state.device.outcomes left call.carries.asks (launch made ∷ []) answered in
          let t = call.carries.leads s parts.0 stands.stands parts.1 in
          let u = launches.answers t.0 left t.2 (subst (λ (o : List Outcome). AreAnswered o (launch made ∷ []) left) (sym t.3) parts.2) in
          let mode_s : e.tool.mode ≡ s.state.mode = ap (λ (k : ToolState). k.mode) stands.stands.tool in
          let mode_t : mid.tool.mode ≡ t.0.state.mode = ap (λ (k : ToolState). k.mode) t.2.tool in
          let on_s : listens s.state.mode ≡ true = ap listens (sym mode_s) ∙ on in
          let chip : Chip = chip_of e.tool.plan.part in
          let stands_u : Stands flash (place now ran call.now later_pend) (launched_then t.0) = record {
            stands = u.0;
            launches = u.3 ∙ ap suc (t.1.1 ∙ stands.launches) ∙ sym counted;
            asked = λ out_u. stops_are_asked.launch t.0.state ∙
                prepared_clean chip used s t.0 on_s (ap is_launching (sym mode_t) ∙ prepared) (takes s t.0 t.1.0);
          } in
          let quiet_s = kept_settled flash part_of (place e r job pend) s s.state.device.outcomes kept stands
          (subst (λ (l : List Asked). AreAnswered s.state.device.outcomes l s.state.device.outcomes) (sym seen) refl) in
          let quiet_u : settled true chip r.stops.items (launched_then t.0).state ≡ (launched_then t.0).state =
          subst (λ (x : Part). settled true (chip_of x) r.stops.items (launched_then t.0).state ≡ (launched_then t.0).state)
          (launches.part ∙ call.part)
          (subst (λ (l : List ℕ). settled true (chip_of now.tool.plan.part) l (launched_then t.0).state ≡ (launched_then t.0).state) stops
          (kept_settled flash part_of (place now ran call.now later_pend) (launched_then t.0) rest kept_then stands_u
          (subst (λ (o : List Outcome). AreAnswered o later_pend rest) (sym u.1) later))) in (
            launched_then t.0,
            record {
              listening = on_s;
              quiet = quiet_s;
              between = t.0;
              takes = takes s t.0 t.1.0;
              is = ap (λ (d : Debugger). record { held = t.0.held; state = d }) (sym quiet_u);
            },
            stands_u,
            u.1,
            u.2 ∙ ap (λ (x : List ℕ). x ++ okay) t.4 ∙ append_assoc (bytes_sent s.state) out okay,
            u.4 ∙ ap (λ (l : List Asked). l ++ launch made ∷ []) (t.1.2 ∙ ap (λ (l : List Asked). s.state.device.asked ++ l) (sym call.same_asks)) ∙
                append_assoc s.state.device.asked call.carries.asks (launch made ∷ []),
          );
    };
  }
