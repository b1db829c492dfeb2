-- The patched debugger and the plain one, event by event and over a replay.
use Rattle.std.proofs.Common.{◌≡◌, ℕ, ◌+◌, ◌≤◌, ◌&&◌, ◌||◌, ltb, Bool, true, false, List, [], ◌∷◌, length, Option, Some, None, refl, sym}
use Rattle.std.proofs.Common.{◌∙◌, ap, ap₂, subst, arith}
use Rattle.std.specs.Prelude.{◌↔◌}
use Rattle.std.specs.List.{flat_map}
use Rattle.std.proofs.lemmas.List.Concat.{flat_map-append}
use Rattle.std.proofs.lemmas.Bool.{and_parts, or_from, le-ltb, cond-false, true≢false}
use Rattle.part_spec.specs.Chip.{Chip, words_of, flash_bytes}
use Rattle.avr_spec.specs.declared.target.Ahead.{Ahead}
use Rattle.avr_spec.specs.Machine.{Machine}
use Rattle.avr_spec.specs.Step.{ahead, flash_byte}
use Rattle.avr_spec.proofs.StepLemmas.{ahead_sees_one_word}
use Rattle.line_spec.specs.Frames.{Frame, bytes_of}
use Rattle.line_spec.specs.declared.refusal.Refusal.TheVariants.{Failed, IllegalMemoryRange}
use Rattle.line_spec.specs.Messages.{Command, single_step, okay, refused, memory, memory_limit}
use Rattle.line_spec.specs.Hearing.{asks, unknown_code, wrong_length, Heard, request, dropped}
use Rattle.debug_spec.specs.Patch.{without, patch}
use Rattle.debug_spec.specs.Stop.{forced, by_step, undefined}
use Rattle.debug_spec.specs.Run.{End, stepped, after, is_undefined, end_within}
use Rattle.debug_spec.specs.Clean.{clean_step, clean_for, clean_run}
use Rattle.debug_spec.specs.Device.{Tried, synced}
use Rattle.debug_spec.specs.Debugger.{Mode, stopped, launching, running, programming, leaving, closed, Debugger, opened, listens, targets}
use Rattle.debug_spec.specs.Debugger.{run_out, replied, told}
use Rattle.debug_spec.specs.Running.{restored, line_end, launch_if_prepared, replant_failed, device_after, run_ended, MayEnd, step_of}
use Rattle.debug_spec.specs.Running.{step_told, stepped_by, single_stepped}
use Rattle.debug_spec.specs.MemoryTypes.{bytes_from}
use Rattle.debug_spec.specs.Commands.{heard_by, item, item_launched}
use Rattle.debug_spec.specs.Replay.{steps_for, end_now, ended_if, settled, over, over_all}
use Rattle.debug_spec.specs.RunLaws.{AllPlantable}
use Rattle.debug_spec.specs.SessionLaws.{IsSound, Grows}
use Rattle.debug_spec.specs.CleanSessions.{clean_single, clean_command, clean_heard, clean_out, clean_session, started, clean_frames}
use Rattle.debug_spec.specs.CleanSessions.{CleanEventsAlike, CleanReplaysAlike, SendsFirst, ReplaysAlikeAtFirst, ReadsShowProgram}
use Rattle.debug_spec.proofs.Sets.{patch-kept, has-without, has-within}
use Rattle.debug_spec.proofs.StepAlike.{clean_steps_alike}
use Rattle.debug_spec.proofs.RunEnds.{end_at, forced_by}
use Rattle.debug_spec.proofs.RunAlike.{clean_runs_alike, clean_ends_alike}
use Rattle.debug_spec.proofs.Soundness.{at, event, grows-nothing, grows-onward}
use Rattle.debug_spec.proofs.Moving.{moves-item_launched, moves-line_end, opened_is_sound, soft_only}
use Rattle.debug_spec.proofs.Sessions.{moves-settled, moves-over}

-- a single step, told whether the word runs, and whether the page writes before it were made
abbrev told_by : Bool → Bool → Chip → Debugger → Debugger
told_by b planted part s =
    elim b [ true ↦ told undefined s | false ↦ told by_step (record s { machine = stepped part (step_of planted s) }) ]

abbrev single_by : Bool → Bool → Chip → ℕ → Tried → Debugger → Debugger
single_by b planted part number tried s = elim b [
  | true ↦ step_told planted part (replied number okay (record s { device = tried.device }))
  | false ↦ replied number (refused Failed) (record s { device = tried.device })
]

module _ (part : Chip) where
  -- a single step of the program that is clean is the same under the planted words
  step_alike : (s : Debugger) → length s.prog ≡ words_of part → AllPlantable part s.prog s.soft →
      clean_step part s.machine s.prog (without s.machine.pc s.soft) ≡ true → step_told true part s ≡ step_told false part s
  step_alike s whole plants clean =
      ap₂ (λ (a : Ahead) (p : Machine). elim (is_undefined a) [ true ↦ told undefined s | false ↦ told by_step (record s { machine = p }) ])
      (ahead_sees_one_word part s.machine (patch s.prog (without s.machine.pc s.soft)) s.prog
      (patch-kept s.prog (without s.machine.pc s.soft) s.machine.pc (has-without s.machine.pc s.soft)))
      (clean_steps_alike part s.machine s.prog (without s.machine.pc s.soft) whole
      (λ a h. plants a (has-within s.machine.pc a s.soft h)) (has-without s.machine.pc s.soft) clean).1

  single_alike : (number : ℕ) (s : Debugger) → IsSound part (at stopped s) → clean_single part (at stopped s) ≡ true →
      single_stepped true part number (at stopped s) ≡ single_stepped false part number (at stopped s)
  single_alike number s sound clean = by_ok tried.ok refl clean
    where
      tried : Tried
      tried = synced part (patch s.prog (without s.machine.pc s.soft)) s.device

      t : Debugger
      t = replied number okay (record (at stopped s) { device = tried.device })

      by_ok : (b : Bool) → tried.ok ≡ b →
          (elim b [ true ↦ clean_step part s.machine s.prog (without s.machine.pc s.soft) | false ↦ true ]) ≡ true →
          stepped_by true part number tried (at stopped s) ≡ stepped_by false part number tried (at stopped s)
      by_ok true e clean =
          ap (λ (u : Debugger). elim tried.ok [
            | true ↦ u
            | false ↦
                replied number (refused Failed) (record (at stopped s) { device = tried.device })
          ])
          (step_alike t sound.program (soft_only part s.run_to s.prog s.soft sound.plants) clean)
      by_ok false e clean =
          ap (λ (b : Bool). elim b [
            | true ↦ step_told true part t
            | false ↦
                replied number (refused Failed) (record (at stopped s) { device = tried.device })
          ]) e ∙
          sym (ap (λ (b : Bool). elim b [
            | true ↦ step_told false part t
            | false ↦
                replied number (refused Failed) (record (at stopped s) { device = tried.device })
          ]) e)

  single_heard_alike : (number : ℕ) (m : Mode) (s : Debugger) → IsSound part (at m s) → clean_single part (at m s) ≡ true →
      heard_by true part (request number (asks single_step)) (at m s) ≡ heard_by false part (request number (asks single_step)) (at m s)
  single_heard_alike number stopped s sound clean = single_alike number s sound clean
  single_heard_alike number (launching n) s sound clean = refl
  single_heard_alike number running s sound clean = refl
  single_heard_alike number programming s sound clean = refl
  single_heard_alike number leaving s sound clean = refl
  single_heard_alike number (closed done) s sound clean = refl

  command_alike : (number : ℕ) (command : Command) (s : Debugger) → IsSound part s → clean_command part command s ≡ true →
      heard_by true part (request number (asks command)) s ≡ heard_by false part (request number (asks command)) s
  command_alike number single_step s sound clean = single_heard_alike number s.mode s sound clean
  command_alike number _ s sound clean = refl

  heard_alike : (heard : Heard) (s : Debugger) → IsSound part s → clean_heard part heard s ≡ true →
      heard_by true part heard s ≡ heard_by false part heard s
  heard_alike (request number (asks command)) s sound clean = command_alike number command s sound clean
  heard_alike (request number unknown_code) s sound clean = refl
  heard_alike (request number wrong_length) s sound clean = refl
  heard_alike (dropped count) s sound clean = refl

  pub item_alike : (heard : Heard) (s : Debugger) → IsSound part s → clean_heard part heard s ≡ true →
      item true part heard s ≡ item false part heard s
  item_alike heard s sound clean = ap (λ (t : Debugger). elim (listens s.mode) [ true ↦ t | false ↦ s ]) (heard_alike heard s sound clean)

  pub item_launched_alike : (heard : Heard) (s : Debugger) → IsSound part s → clean_heard part heard s ≡ true →
      item_launched true part heard s ≡ item_launched false part heard s
  item_launched_alike heard s sound clean =
      ap (λ (t : Debugger). elim (listens s.mode) [ true ↦ launch_if_prepared t | false ↦ s ]) (heard_alike heard s sound clean)

  -- an end of a run, told the state that the target is left in
  ended_to : End → Mode → Debugger → Machine → Debugger
  ended_to e stopped s p = s
  ended_to e (launching number) s p = s
  ended_to e running s p = told e.cause (record s { mode = stopped; machine = p; device = device_after e.steps s; run_to = None })
  ended_to e programming s p = s
  ended_to e leaving s p = restored part (record s { machine = p; device = device_after e.steps s })
  ended_to e (closed done) s p = s

  ended-is : (planted : Bool) (e : End) (m : Mode) (s : Debugger) →
      run_ended planted part e (at m s) ≡ ended_to e m (at m s) (after part (run_out planted s) e.steps)
  unfolding ended_to
  ended-is planted e stopped s = refl
  ended-is planted e (launching number) s = refl
  ended-is planted e running s = refl
  ended-is planted e programming s = refl
  ended-is planted e leaving s = refl
  ended-is planted e (closed done) s = refl

  ended_alike : (e : End) (s : Debugger) → after part (run_out true s) e.steps ≡ after part (run_out false s) e.steps →
      run_ended true part e s ≡ run_ended false part e s
  ended_alike e s same = ended-is true e s.mode s ∙ ap (ended_to e s.mode s) same ∙ sym (ended-is false e s.mode s)

  pub ends_alike : (e : End) (s : Debugger) → IsSound part s → clean_for part (run_out false s) e.steps ≡ true →
      (MayEnd true part s e ↔ MayEnd false part s e) × (MayEnd false part s e → run_ended true part e s ≡ run_ended false part e s)
  ends_alike e s sound clean =
      let alike =
      clean_ends_alike part s.prog s.machine (targets s) s.comparators (replant_failed s) e sound.program sound.plants clean in (
        (
          λ h. record { out = h.out; is_end = alike.0.0 h.is_end; asked = h.asked },
          λ h. record { out = h.out; is_end = alike.0.1 h.is_end; asked = h.asked },
        ),
        λ h. ended_alike e s (alike.1 h.is_end),
      )

  -- a run that ends now ends alike
  module _ (stops : List ℕ) where
    run_settled_alike : (s : Debugger) → IsSound part s →
        clean_run part (run_out false s) (replant_failed s) (steps_for stops s.launches) ≡ true →
        ended_if true part (end_now true part (steps_for stops s.launches) s) s ≡ ended_if false part
        (end_now false part (steps_for stops s.launches) s) s
    run_settled_alike s sound clean =
        let alike = clean_runs_alike part s.prog s.machine (targets s) s.comparators (replant_failed s) (steps_for stops s.launches)
        sound.program sound.plants clean in
        ap (λ (o : Option End). ended_if true part
        (elim o [
          | Some e ↦ Some e
          | None ↦
              elim s.stop_asked [ true ↦ Some (end_at (steps_for stops s.launches) forced) | false ↦ None ]
        ]) s) alike.same_end ∙
        by_end (end_within part (run_out false s) (replant_failed s) (steps_for stops s.launches)) alike.same_states s.stop_asked
      where
        by_end : (o : Option End) →
            ((k : ℕ) → k ≤ (forced_by o (steps_for stops s.launches)).steps →
            after part (run_out true s) k ≡ after part (run_out false s) k) → (asked : Bool) →
            ended_if true part (elim o [
              | Some e ↦ Some e
              | None ↦
                  elim asked [ true ↦ Some (end_at (steps_for stops s.launches) forced) | false ↦ None ]
            ]) s ≡
            ended_if false part (elim o [
              | Some e ↦ Some e
              | None ↦
                  elim asked [ true ↦ Some (end_at (steps_for stops s.launches) forced) | false ↦ None ]
            ]) s
        by_end (Some e) states asked = ended_alike e s (states e.steps (omega arith))
        by_end None states true =
            ended_alike (end_at (steps_for stops s.launches) forced) s (states (steps_for stops s.launches) (omega arith))
        by_end None states false = refl

    settled_alike : (m : Mode) (s : Debugger) → IsSound part (at m s) → clean_out part stops (at m s) ≡ true →
        settled true part stops (at m s) ≡ settled false part stops (at m s)
    settled_alike stopped s sound clean = refl
    settled_alike (launching number) s sound clean = refl
    settled_alike running s sound clean = run_settled_alike (at running s) sound clean
    settled_alike programming s sound clean = refl
    settled_alike leaving s sound clean = run_settled_alike (at leaving s) sound clean
    settled_alike (closed done) s sound clean = refl

    module _ (held : List ℕ) where
      sessions_alike : (heard : List Heard) (s : Debugger) → IsSound part s → clean_session part stops heard held s ≡ true →
          over_all true part stops heard held s ≡ over_all false part stops heard held s
      sessions_alike [] s sound clean =
          let t = line_end part held s in settled_alike t.mode t ((moves-line_end part held s.mode s).sound sound) clean
      sessions_alike (one ∷ heard) s sound clean =
          let t = item_launched false part one s in
          let u = settled false part stops t in
          let parts = and_parts (clean_heard part one s) (clean_out part stops t && clean_session part stops heard held u) clean in
          let later = and_parts (clean_out part stops t) (clean_session part stops heard held u) parts.1 in
          let sound_t = (moves-item_launched part false one s).sound sound in
          let sound_u = (moves-settled false part stops t.mode t).sound sound_t in
          ap (λ (x : Debugger). over_all true part stops heard held (settled true part stops x)) (item_launched_alike one s sound parts.0) ∙
          ap (over_all true part stops heard held) (settled_alike t.mode t sound_t later.0) ∙
          sessions_alike heard u sound_u later.1

      -- what was sent stays so
      all_grows : (planted : Bool) (heard : List Heard) (s : Debugger) → Grows s.sent (over_all planted part stops heard held s).sent
      all_grows planted heard s =
          let t = over planted part stops heard s in
          let u = line_end part held t in
          grows-onward s.sent u.sent (settled planted part stops u).sent
          (grows-onward s.sent t.sent u.sent (moves-over planted part stops heard s).sent (moves-line_end part held t.mode t).sent)
          (moves-settled planted part stops u.mode u).sent

      -- a single step that is not clean is made: it is answered first
      step_grows : (planted : Bool) (s : Debugger) → Grows s.sent (launch_if_prepared (step_told planted part (at stopped s))).sent
      step_grows planted s =
          by_ahead (is_undefined (ahead part (step_of planted (at stopped s)).start (step_of planted (at stopped s)).first))
        where
          by_ahead : (b : Bool) → Grows s.sent (launch_if_prepared (told_by b planted part (at stopped s))).sent
          by_ahead true = (event undefined (at stopped s) ∷ [], refl)
          by_ahead false = (event by_step (record (at stopped s) { machine = stepped part (step_of planted (at stopped s)) }) ∷ [], refl)

      started_grows : (planted : Bool) (number : ℕ) (m : Mode) (s : Debugger) → clean_single part (at m s) ≡ false →
          Grows (replied number okay (at m s)).sent (item_launched planted part (request number (asks single_step)) (at m s)).sent
      started_grows planted number stopped s unclean = by_ok tried.ok unclean
        where
          tried : Tried
          tried = synced part (patch s.prog (without s.machine.pc s.soft)) s.device

          by_ok : (b : Bool) → (elim b [ true ↦ clean_step part s.machine s.prog (without s.machine.pc s.soft) | false ↦ true ]) ≡ false →
              Grows (replied number okay (at stopped s)).sent
              (launch_if_prepared (single_by b planted part number tried (at stopped s))).sent
          by_ok true h = step_grows planted (replied number okay (record (at stopped s) { device = tried.device }))
          by_ok false h = absurd (true≢false h)
      started_grows planted number (launching n) s unclean = absurd (true≢false unclean)
      started_grows planted number running s unclean = absurd (true≢false unclean)
      started_grows planted number programming s unclean = absurd (true≢false unclean)
      started_grows planted number leaving s unclean = absurd (true≢false unclean)
      started_grows planted number (closed done) s unclean = absurd (true≢false unclean)

      command_grows : (planted : Bool) (number : ℕ) (command : Command) (s : Debugger) → clean_command part command s ≡ false →
          Grows (replied number okay s).sent (item_launched planted part (request number (asks command)) s).sent
      command_grows planted number single_step s unclean = started_grows planted number s.mode s unclean
      command_grows planted number _ s unclean = absurd (true≢false unclean)

      pub heard_grows : (planted : Bool) (one : Heard) (s : Debugger) → clean_heard part one s ≡ false →
          Grows (started one s) (item_launched planted part one s).sent
      heard_grows planted (request number (asks command)) s unclean = command_grows planted number command s unclean
      heard_grows planted (request number unknown_code) s unclean = absurd (true≢false unclean)
      heard_grows planted (request number wrong_length) s unclean = absurd (true≢false unclean)
      heard_grows planted (dropped count) s unclean = absurd (true≢false unclean)

      abbrev BothGrow : List Frame → List Heard → Debugger → Type 0
      BothGrow frames heard s =
          Grows frames (over_all true part stops heard held s).sent × Grows frames (over_all false part stops heard held s).sent

      first_alike : (heard : List Heard) (s : Debugger) → IsSound part s → BothGrow (clean_frames part stops heard held s) heard s
      first_alike [] s sound = by_clean (clean_out part stops t) refl
        where
          t : Debugger
          t = line_end part held s

          by_clean : (b : Bool) → clean_out part stops t ≡ b →
              BothGrow (elim b [ true ↦ (settled false part stops t).sent | false ↦ t.sent ]) [] s
          by_clean true e =
              let same = settled_alike t.mode t ((moves-line_end part held s.mode s).sound sound) e in (
                subst (λ (u : Debugger). Grows (settled false part stops t).sent u.sent) (sym same)
                    (grows-nothing (settled false part stops t).sent),
                grows-nothing (settled false part stops t).sent,
              )
          by_clean false e = ((moves-settled true part stops t.mode t).sent, (moves-settled false part stops t.mode t).sent)
      first_alike (one ∷ heard) s sound =
          by_heard (clean_heard part one s) refl (first_alike heard (settled false part stops (item_launched false part one s))
          ((moves-settled false part stops (item_launched false part one s).mode (item_launched false part one s)).sound
          ((moves-item_launched part false one s).sound sound)))
        where
          t : Debugger
          t = item_launched false part one s

          behind : (planted : Bool) → Grows (item_launched planted part one s).sent (over_all planted part stops (one ∷ heard) held s).sent
          behind planted =
              let x = item_launched planted part one s in
              let y = settled planted part stops x in
              grows-onward x.sent y.sent (over_all planted part stops heard held y).sent (moves-settled planted part stops x.mode x).sent
              (all_grows planted heard y)

          by_out : (b : Bool) → clean_out part stops t ≡ b → item_launched true part one s ≡ t →
              BothGrow (clean_frames part stops heard held (settled false part stops t)) heard (settled false part stops t) →
              BothGrow (elim b [ true ↦ clean_frames part stops heard held (settled false part stops t) | false ↦ t.sent ]) (one ∷ heard) s
          by_out true e same ih =
              let both = ap (settled true part stops) same ∙
              settled_alike t.mode t ((moves-item_launched part false one s).sound sound) e in (
                subst (λ (u : Debugger). Grows (clean_frames part stops heard held (settled false part stops t))
                    (over_all true part stops heard held u).sent) (sym both) ih.0,
                ih.1,
              )
          by_out false e same ih =
              (subst (λ (u : Debugger). Grows u.sent (over_all true part stops (one ∷ heard) held s).sent) same (behind true), behind false)

          by_heard : (b : Bool) → clean_heard part one s ≡ b →
              BothGrow (clean_frames part stops heard held (settled false part stops t)) heard (settled false part stops t) →
              BothGrow (elim b [
                | true ↦ elim (clean_out part stops t) [
                  | true ↦ clean_frames part stops heard held (settled false part stops t)
                  | false ↦
                      t.sent
                ]
                | false ↦ started one s
              ]) (one ∷ heard) s
          by_heard true e ih = by_out (clean_out part stops t) refl (item_launched_alike one s sound e) ih
          by_heard false e ih = (
            grows-onward (started one s) (item_launched true part one s).sent (over_all true part stops (one ∷ heard) held s).sent
                (heard_grows true one s e) (behind true),
            grows-onward (started one s) (item_launched false part one s).sent (over_all false part stops (one ∷ heard) held s).sent
                (heard_grows false one s e) (behind false),
          )

pub clean_events_alike : CleanEventsAlike
clean_events_alike part s sound = record {
  item = λ heard clean. item_alike part heard s sound clean;
  item_launched = λ heard clean. item_launched_alike part heard s sound clean;
  may_end = λ e clean. (ends_alike part e s sound clean).0;
  ended = λ e clean. (ends_alike part e s sound clean).1;
}

pub clean_replays_alike : CleanReplaysAlike
clean_replays_alike part stops prog device heard held full fit clean =
    sessions_alike part stops held heard (opened part prog device) (opened_is_sound part prog device full fit).0 clean

-- the first frames of a session are its first bytes
sends_first : (frames : List Frame) (s : Debugger) → Grows frames s.sent → SendsFirst frames s
sends_first frames s grows = record {
  frames_first = grows;
  bytes_first = (flat_map bytes_of grows.0, ap (flat_map bytes_of) grows.1 ∙ flat_map-append bytes_of frames grows.0);
}

pub replays_alike_at_first : ReplaysAlikeAtFirst
replays_alike_at_first part stops prog device heard held full fit =
    let frames = clean_frames part stops heard held (opened part prog device) in
    let both = first_alike part stops held heard (opened part prog device) (opened_is_sound part prog device full fit).0 in (
      sends_first frames (over_all true part stops heard held (opened part prog device)) both.0,
      sends_first frames (over_all false part stops heard held (opened part prog device)) both.1,
    )

pub reads_show_program : ReadsShowProgram
reads_show_program part count address s few inside =
    cond-false (ltb memory_limit count || ltb (flash_bytes part) (address + count)) (refused IllegalMemoryRange)
    (memory (bytes_from (flash_byte s.prog) address count))
    (or_from (ltb memory_limit count) (ltb (flash_bytes part) (address + count)) (le-ltb memory_limit count few)
    (le-ltb (flash_bytes part) (address + count) inside))
