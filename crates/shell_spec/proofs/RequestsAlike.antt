-- One request of a script, by the patched debugger and by the plain one.
use Rattle.std.proofs.Common.{◌≡◌, ℕ, ◌≤◌, Bool, true, false, not, List, [], ◌∷◌, ◌++◌, length, drop, Option, Some, None, refl, sym}
use Rattle.std.proofs.Common.{◌∙◌, ap, subst, arith, append_assoc, append-nil}
use Rattle.std.proofs.lemmas.Bool.{and_parts, true≢false}
use Rattle.std.proofs.lemmas.List.Elements.{filter-append}
use Rattle.std.proofs.Math.Seq.{drop-append_seam}
use Rattle.part_spec.specs.Chip.{Chip}
use Rattle.avr_spec.specs.Machine.{Machine}
use Rattle.avr_spec.specs.Step.{ahead}
use Rattle.line_spec.specs.Frames.{Frame}
use Rattle.line_spec.specs.Hearing.{Heard, request, asks}
use Rattle.line_spec.specs.declared.refusal.Refusal.TheVariants.{Failed}
use Rattle.line_spec.specs.Messages.{Command, single_step, okay, refused}
use Rattle.debug_spec.specs.Patch.{without, patch}
use Rattle.debug_spec.specs.Stop.{by_step, forced, undefined}
use Rattle.debug_spec.specs.Run.{End, after, is_undefined, end_within, stepped}
use Rattle.debug_spec.specs.Clean.{clean_step, clean_run}
use Rattle.debug_spec.specs.Device.{Tried, synced}
use Rattle.debug_spec.specs.Debugger.{Mode, stopped, launching, running, programming, leaving}
use Rattle.debug_spec.specs.Debugger.{closed, Debugger, replied, run_out, targets, told}
use Rattle.debug_spec.specs.Running.{device_after, launch_if_prepared, replant_failed, restored, run_ended, step_of, step_told}
use Rattle.debug_spec.specs.Commands.{item_launched}
use Rattle.debug_spec.specs.Replay.{end_now, ended_if, over, settled, steps_for}
use Rattle.debug_spec.specs.SessionLaws.{IsSound, Grows}
use Rattle.debug_spec.specs.CleanSessions.{clean_command, clean_heard, clean_out, clean_single}
use Rattle.debug_spec.proofs.RunEnds.{end_at, forced_by}
use Rattle.debug_spec.proofs.RunAlike.{clean_runs_alike}
use Rattle.debug_spec.proofs.Soundness.{at, event, reply}
use Rattle.debug_spec.proofs.Moving.{moves-item_launched}
use Rattle.debug_spec.proofs.HeadlineLemmas.{item_launched_alike}
use Rattle.shell_spec.specs.Sent.{is_event, replies_in}
use Rattle.shell_spec.specs.CleanScripts.{clean_request}

-- behind some frames stand events alone
record AddsEvents (before now : List Frame) : Type 0 where
  pub events : List Frame
  pub split : now ≡ before ++ events
  pub none : replies_in events ≡ []

adds-none : (sent : List Frame) → AddsEvents sent sent
adds-none sent = record { events = []; split = sym (append-nil sent); none = refl }

-- so the replies behind a front of them stay the same
replies-kept : (front middle now : List Frame) → AddsEvents (front ++ middle) now → replies_in (drop (length front) now) ≡ replies_in middle
replies-kept front middle now adds =
    ap (λ (t : List Frame). replies_in (drop (length front) t)) (adds.split ∙ append_assoc front middle adds.events) ∙
    ap (λ (t : List Frame). replies_in t) (drop-append_seam front (middle ++ adds.events)) ∙
    filter-append (λ frame. not (is_event frame)) middle adds.events ∙
    ap (λ (t : List Frame). replies_in middle ++ t) adds.none ∙ append-nil (replies_in middle)

-- the end of a run that is out, by the one that it comes to itself
abbrev end_of_run : Option End → Bool → ℕ → Option End
end_of_run o asked steps = elim o [
  | Some e ↦ Some e
  | None ↦ elim asked [ true ↦ Some (end_at steps forced) | false ↦ None ]
]

module _ (part : Chip) (stops : List ℕ) where
  -- what happens between two items sends events alone
  adds-ended_if : (planted : Bool) (o : Option End) (m : Mode) (s : Debugger) → AddsEvents s.sent (ended_if planted part o (at m s)).sent
  adds-ended_if planted None m s = adds-none s.sent
  adds-ended_if planted (Some e) stopped s = adds-none s.sent
  adds-ended_if planted (Some e) (launching number) s = adds-none s.sent
  adds-ended_if planted (Some e) running s =
      record { events = event e.cause (record s { machine = after part (run_out planted s) e.steps }) ∷ []; split = refl; none = refl }
  adds-ended_if planted (Some e) programming s = adds-none s.sent
  adds-ended_if planted (Some e) leaving s = adds-none s.sent
  adds-ended_if planted (Some e) (closed done) s = adds-none s.sent

  adds-settled : (planted : Bool) (m : Mode) (s : Debugger) → AddsEvents s.sent (settled planted part stops (at m s)).sent
  adds-settled planted stopped s = adds-none s.sent
  adds-settled planted (launching number) s = adds-none s.sent
  adds-settled planted running s =
      adds-ended_if planted (end_now planted part (steps_for stops s.launches) (at running s)) running s
  adds-settled planted programming s = adds-none s.sent
  adds-settled planted leaving s =
      adds-ended_if planted (end_now planted part (steps_for stops s.launches) (at leaving s)) leaving s
  adds-settled planted (closed done) s = adds-none s.sent

  -- an end leaves the same, where the runs come to the same state
  ended_same : (e : End) (m : Mode) (s : Debugger) → after part (run_out true s) e.steps ≡ after part (run_out false s) e.steps →
      run_ended true part e (at m s) ≡ run_ended false part e (at m s)
  ended_same e stopped s same = refl
  ended_same e (launching number) s same = refl
  ended_same e running s same =
      ap (λ (p : Machine). told e.cause (record s {
        mode = stopped;
        machine = p;
        device = device_after e.steps (at running s);
        run_to = None;
      })) same
  ended_same e programming s same = refl
  ended_same e leaving s same =
      ap (λ (p : Machine). restored part (record s { mode = leaving; machine = p; device = device_after e.steps (at leaving s) })) same
  ended_same e (closed done) s same = refl

  ended_if_same : (o : Option End) (asked : Bool) (steps : ℕ) (m : Mode) (s : Debugger) →
      ((k : ℕ) → k ≤ (forced_by o steps).steps → after part (run_out true s) k ≡ after part (run_out false s) k) →
      ended_if true part (end_of_run o asked steps) (at m s) ≡ ended_if false part (end_of_run o asked steps) (at m s)
  ended_if_same (Some e) asked steps m s states = ended_same e m s (states e.steps (omega arith))
  ended_if_same None true steps m s states = ended_same (end_at steps forced) m s (states steps (omega arith))
  ended_if_same None false steps m s states = refl

  -- a clean run that is out ends alike
  run_settled_same : (m : Mode) (s : Debugger) → IsSound part (at m s) →
      clean_run part (run_out false s) (replant_failed s) (steps_for stops s.launches) ≡ true →
      ended_if true part (end_now true part (steps_for stops s.launches) (at m s)) (at m s) ≡
      ended_if false part (end_now false part (steps_for stops s.launches) (at m s)) (at m s)
  run_settled_same m s sound clean =
      let steps = steps_for stops s.launches in
      let alike = clean_runs_alike part s.prog s.machine (targets s) s.comparators (replant_failed s) steps sound.program sound.plants
      clean in
      ap (λ (o : Option End). ended_if true part (end_of_run o s.stop_asked steps) (at m s)) alike.same_end ∙
      ended_if_same (end_within part (run_out false s) (replant_failed s) steps) s.stop_asked steps m s alike.same_states

  pub settled_same : (m : Mode) (s : Debugger) → IsSound part (at m s) → clean_out part stops (at m s) ≡ true →
      settled true part stops (at m s) ≡ settled false part stops (at m s)
  settled_same stopped s sound clean = refl
  settled_same (launching number) s sound clean = refl
  settled_same running s sound clean = run_settled_same running s sound clean
  settled_same programming s sound clean = refl
  settled_same leaving s sound clean = run_settled_same leaving s sound clean
  settled_same (closed done) s sound clean = refl

  -- a request with which what runs is clean
  pub request_same : (heard : Heard) (s : Debugger) → IsSound part s → clean_request part stops heard s ≡ true →
      over true part stops (heard ∷ []) s ≡ over false part stops (heard ∷ []) s
  request_same heard s sound clean =
      let t = item_launched false part heard s in
      let parts = and_parts (clean_heard part heard s) (clean_out part stops t) clean in
      ap (λ (u : Debugger). settled true part stops u) (item_launched_alike part heard s sound parts.0) ∙
      settled_same t.mode t ((moves-item_launched part false heard s).sound sound) parts.1

  adds-onward : (a b c : List Frame) → AddsEvents a b → AddsEvents b c → AddsEvents a c
  adds-onward a b c first later = record {
    events = first.events ++ later.events;
    split = later.split ∙ ap (λ (t : List Frame). t ++ later.events) first.split ∙ append_assoc a first.events later.events;
    none = filter-append (λ frame. not (is_event frame)) first.events later.events ∙
        ap (λ (t : List Frame). t ++ replies_in later.events) first.none ∙ later.none;
  }

  -- a single step that is made is answered, and then its event is sent
  step_adds : (planted : Bool) (s : Debugger) → AddsEvents s.sent (launch_if_prepared (step_told planted part (at stopped s))).sent
  step_adds planted s =
      by_ahead (is_undefined (ahead part (step_of planted (at stopped s)).start (step_of planted (at stopped s)).first))
    where
      by_ahead : (b : Bool) → AddsEvents s.sent (launch_if_prepared (elim b [
        | true ↦ told undefined (at stopped s)
        | false ↦ told by_step (record (at stopped s) { machine = stepped part (step_of planted (at stopped s)) })
      ])).sent
      by_ahead true = record { events = event undefined (at stopped s) ∷ []; split = refl; none = refl }
      by_ahead false = record {
        events = event by_step (record (at stopped s) { machine = stepped part (step_of planted (at stopped s)) }) ∷ [];
        split = refl;
        none = refl;
      }

  unclean_step_adds : (planted : Bool) (number : ℕ) (m : Mode) (s : Debugger) → clean_single part (at m s) ≡ false →
      AddsEvents (replied number okay (at m s)).sent (item_launched planted part (request number (asks single_step)) (at m s)).sent
  unclean_step_adds planted number stopped s unclean = by_ok tried.ok unclean
    where
      tried : Tried
      tried = synced part (patch s.prog (without s.machine.pc s.soft)) s.device

      by_ok : (b : Bool) → (elim b [ true ↦ clean_step part s.machine s.prog (without s.machine.pc s.soft) | false ↦ true ]) ≡ false →
          AddsEvents (replied number okay (at stopped s)).sent (launch_if_prepared (elim b [
            | true ↦ step_told planted part (replied number okay (record (at stopped s) { device = tried.device }))
            | false ↦ replied number (refused Failed) (record (at stopped s) { device = tried.device })
          ])).sent
      by_ok true h = step_adds planted (replied number okay (record (at stopped s) { device = tried.device }))
      by_ok false h = absurd (true≢false h)
  unclean_step_adds planted number (launching n) s unclean = absurd (true≢false unclean)
  unclean_step_adds planted number running s unclean = absurd (true≢false unclean)
  unclean_step_adds planted number programming s unclean = absurd (true≢false unclean)
  unclean_step_adds planted number leaving s unclean = absurd (true≢false unclean)
  unclean_step_adds planted number (closed done) s unclean = absurd (true≢false unclean)

  unclean_adds : (planted : Bool) (number : ℕ) (command : Command) (s : Debugger) → clean_command part command s ≡ false →
      AddsEvents (replied number okay s).sent (item_launched planted part (request number (asks command)) s).sent
  unclean_adds planted number single_step s unclean = unclean_step_adds planted number s.mode s unclean
  unclean_adds planted number _ s unclean = absurd (true≢false unclean)

  -- and what follows sends events alone
  settled_adds : (planted : Bool) (base : List Frame) (heard : Heard) (s : Debugger) →
      AddsEvents base (item_launched planted part heard s).sent → AddsEvents base (over planted part stops (heard ∷ []) s).sent
  settled_adds planted base heard s adds =
      let t = item_launched planted part heard s in
      adds-onward base t.sent (settled planted part stops t).sent adds (adds-settled planted t.mode t)

  -- the replies to one request
  abbrev replies_to : Bool → Heard → Debugger → List Frame
  replies_to planted heard s = replies_in (drop (length s.sent) (over planted part stops (heard ∷ []) s).sent)

  same_replies : (middle : List Frame) (heard : Heard) (s : Debugger) →
      AddsEvents (s.sent ++ middle) (over true part stops (heard ∷ []) s).sent →
      AddsEvents (s.sent ++ middle) (over false part stops (heard ∷ []) s).sent → replies_to true heard s ≡ replies_to false heard s
  same_replies middle heard s patched plain =
      replies-kept s.sent middle (over true part stops (heard ∷ []) s).sent patched ∙
      sym (replies-kept s.sent middle (over false part stops (heard ∷ []) s).sent plain)

  -- a request with which what runs is not clean is answered alike
  pub replies_same : (number : ℕ) (command : Command) (s : Debugger) → IsSound part s →
      replies_to true (request number (asks command)) s ≡ replies_to false (request number (asks command)) s
  replies_same number command s sound = by_clean (clean_command part command s) refl
    where
      heard : Heard
      heard = request number (asks command)

      grows : Grows s.sent (item_launched false part heard s).sent
      grows = (moves-item_launched part false heard s).sent

      by_clean : (b : Bool) → clean_command part command s ≡ b → replies_to true heard s ≡ replies_to false heard s
      by_clean true clean =
          let plain : AddsEvents (s.sent ++ grows.0) (item_launched false part heard s).sent =
          record { events = []; split = grows.1 ∙ sym (append-nil (s.sent ++ grows.0)); none = refl } in
          same_replies grows.0 heard s
          (settled_adds true (s.sent ++ grows.0) heard s
          (subst (λ (t : Debugger). AddsEvents (s.sent ++ grows.0) t.sent) (sym (item_launched_alike part heard s sound clean)) plain))
          (settled_adds false (s.sent ++ grows.0) heard s plain)
      by_clean false unclean =
          same_replies (reply number okay ∷ []) heard s
          (settled_adds true (replied number okay s).sent heard s (unclean_adds true number command s unclean))
          (settled_adds false (replied number okay s).sent heard s (unclean_adds false number command s unclean))
