-- Break events and their reasons.
use Rattle.std.proofs.Common.{◌≡◌, ℕ, zero, suc, ◌<◌, ◌==◌, ◌&&◌, cond, Bool, true, false, List, [], ◌∷◌, ◌++◌, length, Option, Some, None}
use Rattle.std.proofs.Common.{refl, sym, ◌∙◌, ap, subst, arith, append-nil, append_assoc, ◌⊎◌, inl, inr}
use Rattle.std.specs.Prelude.{◌+◌, Result, Ok, Err, MatchOption, nat_le, nat_lt, slice_get, slice_set, not, ◌||◌, ◌/◌, if◌then◌else◌}
use Rattle.std.specs.List.{All}
use Rattle.std.proofs.lemmas.List.Elements.{All-nil, All-cons, All-append}
use Rattle.std.proofs.lemmas.Bool.{true≢false}
use Rattle.part_spec.specs.Chip.{Chip, words_of, flash_bytes, page_bytes}
use Rattle.avr_spec.specs.declared.target.Ahead.{Ahead}
use Rattle.avr_spec.specs.declared.target.Ahead.TheVariants.{Interrupt, Ready, Break as BreakAhead, Undefined as UndefinedAhead}
use Rattle.avr_spec.specs.Machine.{Machine, restarted}
use Rattle.avr_spec.specs.Memory.{store}
use Rattle.avr_spec.specs.Effect.{with_pc, with_io}
use Rattle.avr_spec.specs.Step.{ahead}
use Rattle.avr_spec.proofs.StepLemmas.{ahead_sees_one_word}
use Rattle.line_spec.specs.Frames.{Frame}
use Rattle.line_spec.specs.declared.refusal.Refusal.{Refusal}
use Rattle.line_spec.specs.declared.refusal.Refusal.TheVariants.{Failed, IllegalBreakpoint, IllegalMemoryType, IllegalMemoryRange}
use Rattle.line_spec.specs.declared.refusal.Refusal.TheVariants.{IllegalMcuState, IllegalValue, IllegalCommand}
use Rattle.line_spec.specs.Messages.{Command, sign_off, get_sign_on, set_parameter, get_parameter, write_memory, read_memory, write_pc}
use Rattle.line_spec.specs.Messages.{read_pc, go, single_step, forced_stop, reset, set_device_descriptor, erase_page, get_sync, set_break}
use Rattle.line_spec.specs.Messages.{chip_erase, enter_programming, leave_programming, clear_break, run_to, clear_events, Response}
use Rattle.line_spec.specs.Messages.{response_body, okay, program_counter, signed_on, refused, own_head, own_name}
use Rattle.line_spec.specs.Hearing.{Request, asks, unknown_code, wrong_length, Heard, request, dropped}
use Rattle.line_spec.specs.Parameters.{Parameter, parameter_read, parameter_written}
use Rattle.debug_spec.specs.Patch.{has, without, patch, plantable}
use Rattle.debug_spec.specs.Stop.{Cause, breakpoint, forced, by_step, by_reset, own_break, undefined}
use Rattle.debug_spec.specs.Stop.{failed_write, stop}
use Rattle.debug_spec.specs.Run.{Run, onward, run_after, after, stop_after, stepped, End, early_end, is_undefined, IsCauseOf, IsTestedEnd}
use Rattle.debug_spec.specs.Run.{run_words}
use Rattle.debug_spec.specs.RunLaws.{IsReason}
use Rattle.debug_spec.specs.Device.{Tried, synced, launched}
use Rattle.debug_spec.specs.Programming.{Programmed, erased_all, erased_page}
use Rattle.debug_spec.specs.Debugger.{Mode, stopped, launching, running, programming, leaving, Debugger, comparator_count, listens, is_out}
use Rattle.debug_spec.specs.Debugger.{state_number, targets, targets_by, run_out, replied, told, dropping}
use Rattle.debug_spec.specs.Running.{left, launch_in, launch_if_prepared, prepared, replant_failed, run_ended, MayEnd, step_of, step_told}
use Rattle.debug_spec.specs.Running.{single_stepped}
use Rattle.debug_spec.specs.Breakpoints.{program_break, inserted, may_set, set_numbered, break_cleared, is_set, no_breakpoint}
use Rattle.debug_spec.specs.MemoryTypes.{Memory, data_space, io_space, program, fuses, lock_bits, signature, access_of, memory_size}
use Rattle.debug_spec.specs.MemoryTypes.{in_whole_units, read_of, write_of, written_to, stored_from, pages_programmed, programming_told}
use Rattle.debug_spec.specs.Commands.{parameter_response, parameter_set, allowed, entered_by, carried_out, answered, item}
use Rattle.debug_spec.specs.Take.{goes_on}
use Rattle.debug_spec.specs.Events.{event_of, HasReason, EndIsTold, Tells, EventsHaveReasons, asks_stop, StopsAreAsked, asks_off}
use Rattle.debug_spec.specs.Events.{SignOffsEnd}
use Rattle.debug_spec.proofs.Sets.{patch-kept, has-without}
use Rattle.debug_spec.proofs.StepAlike.{stops_agree, stops_have_reasons}
use Rattle.debug_spec.proofs.RunEnds.{end_at}
use Rattle.debug_spec.proofs.Soundness.{at}
use Rattle.debug_spec.proofs.TakeLemmas.{launch_told}
use Rattle.debug_spec.proofs.TakeChunks.{listens-launched, no_launch, listening_launch}
use Rattle.debug_spec.proofs.ScheduleCutLemmas.{line_sends}

-- what does not run
only_undefined : (a : Ahead) → is_undefined a ≡ true → a ≡ UndefinedAhead
only_undefined Interrupt h = absurd (true≢false (sym h))
only_undefined Ready h = absurd (true≢false (sym h))
only_undefined BreakAhead h = absurd (true≢false (sym h))
only_undefined UndefinedAhead h = refl

-- behind its first step a run has its later words
pub record IsUnder (q r : Run) : Type 0 where
  pub first : q.first ≡ r.later
  pub later : q.later ≡ r.later
  pub stops : q.stops ≡ r.stops
  pub comparators : q.comparators ≡ r.comparators

module _ (part : Chip) where
  under : (n : ℕ) (q r : Run) → IsUnder q r → IsUnder (run_after part q n) r
  under zero q r u = u
  under (suc n) q r u =
      under n (onward part q) r (record { first = u.later; later = u.later; stops = u.stops; comparators = u.comparators })

  under_later : (r : Run) (n : ℕ) → 0 < n → IsUnder (run_after part r n) r
  under_later r zero some = absurd (omega (arith, some))
  under_later r (suc n) some = under n (onward part r) r (record { first = refl; later = refl; stops = refl; comparators = refl })

  -- so it is tested for stops under them
  stop_later : (r : Run) (n : ℕ) → 0 < n → stop_after part r n ≡ stop part (after part r n) r.later r.stops r.comparators
  stop_later r n some =
      let u = under_later r n some in
      let q = run_after part r n in
      ap (λ (w : List ℕ). stop part q.start w q.stops q.comparators) u.first ∙
      ap (λ (w : List ℕ). stop part q.start r.later w q.comparators) u.stops ∙
      ap (λ (c : List (Option ℕ)). stop part q.start r.later r.stops c) u.comparators

  -- the planted words stop the target where the program's do, and do not run where they do not
  program_stops : (planted : Bool) (p : Machine) (prog set : List ℕ) (comparators : List (Option ℕ)) →
      stop part p (run_words planted prog set) set comparators ≡ stop part p prog set comparators
  program_stops true p prog set comparators = stops_agree part p prog set comparators
  program_stops false p prog set comparators = refl

  program_ahead : (planted : Bool) (p : Machine) (prog set : List ℕ) →
      ahead part p (run_words planted prog (without p.pc set)) ≡ ahead part p prog
  program_ahead true p prog set =
      ahead_sees_one_word part p (patch prog (without p.pc set)) prog (patch-kept prog (without p.pc set) p.pc (has-without p.pc set))
  program_ahead false p prog set = refl

  named_so : (s : Debugger) (p : Machine) (cause : Cause) → IsReason part p s.prog (targets s) s.comparators cause →
      HasReason part s p cause
  named_so s p breakpoint h = h
  named_so s p forced h = absurd h
  named_so s p by_step h = absurd h
  named_so s p by_reset h = absurd h
  named_so s p own_break h = h
  named_so s p undefined h = h
  named_so s p failed_write h = absurd h

  module _ (planted : Bool) (s : Debugger) where
    abbrev r_out : Run
    r_out = run_out planted s

    tested_reason : (e : End) → MayEnd planted part s e → IsTestedEnd part r_out e → HasReason part s (after part r_out e.steps) e.cause
    tested_reason e may t =
        by_stop (stop_after part r_out e.steps) refl t.here
      where
        p : Machine
        p = after part r_out e.steps

        by_stop : (o : Option Cause) → stop_after part r_out e.steps ≡ o → IsCauseOf o e.cause → HasReason part s p e.cause
        by_stop None here h = subst (HasReason part s p) (sym h) (may.asked h)
        by_stop (Some cause) here h =
            let stopped_so : stop part p s.prog (targets s) s.comparators ≡ Some cause =
            sym (program_stops planted p s.prog (targets s) s.comparators) ∙ sym (stop_later r_out e.steps t.some_step) ∙ here in
            subst (HasReason part s p) (sym h)
            (named_so s p cause (stops_have_reasons part p s.prog (targets s) s.comparators cause stopped_so))

    early_reason : (e early : End) → early_end part r_out (replant_failed s) ≡ Some early → e ≡ early →
        HasReason part s (after part r_out e.steps) e.cause
    early_reason e early h same =
        by_tests (is_undefined (ahead part s.machine r_out.first)) refl (has (targets s) s.machine.pc) (replant_failed s) refl h
      where
        same_early : (x : End) → Some x ≡ Some early → x ≡ e
        same_early x f = cc

        by_tests : (a : Bool) → is_undefined (ahead part s.machine r_out.first) ≡ a → (b f : Bool) → replant_failed s ≡ f →
            cond a (Some (end_at 0 undefined)) (cond (b && f) (Some (end_at 1 failed_write)) None) ≡ Some early →
            HasReason part s (after part r_out e.steps) e.cause
        by_tests true at_first b f failed g =
            subst (λ (x : End). HasReason part s (after part r_out x.steps) x.cause) (same_early (end_at 0 undefined) g)
            (sym (program_ahead planted s.machine s.prog (targets s)) ∙ only_undefined (ahead part s.machine r_out.first) at_first)
        by_tests false at_first true true failed g =
            subst (λ (x : End). HasReason part s (after part r_out x.steps) x.cause) (same_early (end_at 1 failed_write) g) failed
        by_tests false at_first true false failed g = cc
        by_tests false at_first false f failed g = cc

    end_reason : (e : End) → MayEnd planted part s e → HasReason part s (after part r_out e.steps) e.cause
    end_reason e may = by_early (early_end part r_out (replant_failed s)) refl may.is_end
      where
        by_early : (o : Option End) → early_end part r_out (replant_failed s) ≡ o →
            MatchOption o (IsTestedEnd part r_out e) (λ early. e ≡ early) →
            HasReason part s (after part r_out e.steps) e.cause
        by_early None none t = tested_reason e may t
        by_early (Some early) h same = early_reason e early h same

  end_machine : (planted : Bool) (e : End) (m : Mode) (s : Debugger) → is_out m ≡ true →
      (run_ended planted part e (at m s)).machine ≡ after part (run_out planted s) e.steps
  end_machine planted e running s out = refl
  end_machine planted e leaving s out = refl
  end_machine planted e _ s out = absurd (true≢false (sym out))

  end_is_told : (planted : Bool) (s : Debugger) (e : End) → MayEnd planted part s e → EndIsTold planted part s e
  end_is_told planted s e may = record {
    reason = end_reason planted s e may;
    machine = end_machine planted e s.mode s may.out;
    running = λ h. subst (λ (m : Mode). (run_ended planted part e (at m s)).sent ≡ s.sent ++ event_of e.cause
        (after part (run_out planted s) e.steps) ∷ []) (sym h) refl;
    leaving = λ h. subst (λ (m : Mode). (run_ended planted part e (at m s)).sent ≡ s.sent) (sym h) refl;
  }

-- what is heard, where the debugger listens
abbrev heard_if : Bool → Debugger → Debugger → Debugger
heard_if b t s = elim b [ true ↦ t | false ↦ s ]

-- a run is prepared
abbrev is_launching : Mode → Bool
is_launching (launching number) = true
is_launching _ = false

listening_quiet : (m : Mode) → listens m ≡ true → is_launching m ≡ false
listening_quiet (launching number) h = absurd (true≢false (sym h))
listening_quiet _ h = refl

left_quiet : (part : Chip) (m : Mode) (s : Debugger) → listens m ≡ true → is_launching (left part (at m s)).mode ≡ false
left_quiet part (launching number) s h = absurd (true≢false (sym h))
left_quiet part _ s h = refl

left_sends : (part : Chip) (m : Mode) (s : Debugger) → (left part (at m s)).sent ≡ s.sent
left_sends part stopped s = refl
left_sends part _ s = refl

launch_keeps : (m : Mode) (s : Debugger) → (launch_if_prepared (at m s)).stop_asked ≡ s.stop_asked
launch_keeps (launching number) s = by_ok (launched s.device).ok
  where
    by_ok : (b : Bool) → (launch_told b number (at (launching number) s)).stop_asked ≡ s.stop_asked
    by_ok true = refl
    by_ok false = refl
launch_keeps _ s = refl

module _ (planted : Bool) (part : Chip) (number : ℕ) (s : Debugger) where
  abbrev IsSentFor : Request → Frame → Type 0
  IsSentFor asked frame = (frame.number ≡ number) ⊎ Tells planted part asked s frame

  -- a request is answered
  record Answers (asked : Request) (t : Debugger) : Type 0 where
    more : List Frame
    sent : t.sent ≡ s.sent ++ more
    each : All (IsSentFor asked) more
    quiet : is_launching t.mode ≡ false
    deaf : listens t.mode ≡ false → asks_off (request number asked) ≡ true
    stops : t.stop_asked ≡ true → (s.stop_asked ≡ true) ⊎ (asks_stop (request number asked) ≡ true)

  -- or its run is prepared
  record Prepares (t : Debugger) : Type 0 where
    mode : t.mode ≡ launching number
    sent : t.sent ≡ s.sent
    cleared : t.stop_asked ≡ false

  abbrev Does : Request → Debugger → Type 0
  Does asked t = Answers asked t ⊎ Prepares t

  one_frame : (asked : Request) (frame : Frame) → IsSentFor asked frame → All (IsSentFor asked) (frame ∷ [])
  one_frame asked frame h = All-cons (IsSentFor asked) frame [] h (All-nil (IsSentFor asked))

  -- by a reply from a state that has sent nothing more
  reply_with : (asked : Request) (response : Response) (t : Debugger) → t.sent ≡ s.sent → listens t.mode ≡ true →
      (t.stop_asked ≡ true → (s.stop_asked ≡ true) ⊎ (asks_stop (request number asked) ≡ true)) → Answers asked (replied number response t)
  reply_with asked response t same listening stops = record {
    more = record { number = number; body = response_body response } ∷ [];
    sent = ap (λ (sent : List Frame). sent ++ record { number = number; body = response_body response } ∷ []) same;
    each = one_frame asked (record { number = number; body = response_body response }) (inl refl);
    quiet = listening_quiet t.mode listening;
    deaf = λ h. absurd (true≢false (sym listening ∙ h));
    stops = stops;
  }

  -- and an event behind it
  told_with : (asked : Request) (cause : Cause) (t : Debugger) (a : Answers asked t) →
      Tells planted part asked s (event_of cause t.machine) → Answers asked (told cause t)
  told_with asked cause t a tells = record {
    more = a.more ++ event_of cause t.machine ∷ [];
    sent = ap (λ (sent : List Frame). sent ++ event_of cause t.machine ∷ []) a.sent ∙
        append_assoc s.sent a.more (event_of cause t.machine ∷ []);
    each = All-append (IsSentFor asked) a.more (event_of cause t.machine ∷ []) a.each
        (one_frame asked (event_of cause t.machine) (inr tells));
    quiet = a.quiet;
    deaf = a.deaf;
    stops = a.stops;
  }

  does_if : (asked : Request) (b : Bool) (x y : Debugger) → Does asked x → Does asked y → Does asked (cond b x y)
  does_if asked true x y h k = h
  does_if asked false x y h k = k

  module _ (listening : listens s.mode ≡ true) where
    reply : (asked : Request) (response : Response) (t : Debugger) → t.sent ≡ s.sent → t.mode ≡ s.mode → t.stop_asked ≡ s.stop_asked →
        Does asked (replied number response t)
    reply asked response t sent mode stops =
        inl (reply_with asked response t sent (ap listens mode ∙ listening) (λ h. inl (sym stops ∙ h)))

    refuse : (asked : Request) (refusal : Refusal) → Does asked (replied number (refused refusal) s)
    refuse asked refusal = reply asked (refused refusal) s refl refl refl

    does_parameter : (asked : Request) (result : Result (List Parameter) Refusal) → Does asked (parameter_set number result s)
    does_parameter asked (Ok parameters) = reply asked okay (record s { parameters = parameters }) refl refl refl
    does_parameter asked (Err refusal) = refuse asked refusal

    does_programmed : (asked : Request) (done : Programmed) → Does asked (programming_told number done s)
    does_programmed asked done =
        reply asked (if done.ok then okay else refused Failed) (record s { prog = done.prog; device = done.device }) refl refl refl

    does_written : (asked : Request) (kind : Memory) (address : ℕ) (bytes : List ℕ) →
        Does asked (written_to part kind number address bytes s)
    does_written asked data_space address bytes =
        reply asked okay (record s { machine = stored_from (store part) address bytes s.machine }) refl refl refl
    does_written asked io_space address bytes =
        reply asked okay (record s { machine = stored_from with_io address bytes s.machine }) refl refl refl
    does_written asked program address bytes = does_programmed asked (pages_programmed address bytes s.prog s)
    does_written asked fuses address bytes = refuse asked IllegalMemoryType
    does_written asked lock_bits address bytes = refuse asked IllegalMemoryType
    does_written asked signature address bytes = refuse asked IllegalMemoryType

    does_entered : (tried : Tried) → Does (asks enter_programming) (entered_by number tried s)
    does_entered tried = by_ok tried.ok
      where
        entered : Debugger
        entered = record s { mode = programming; soft = []; device = tried.device }

        by_ok : (b : Bool) → Does (asks enter_programming) (elim b [
          | true ↦ replied number okay entered
          | false ↦ replied number (refused Failed) (record s { device = tried.device })
        ])
        by_ok true = inl (reply_with (asks enter_programming) okay entered refl refl (λ h. inl h))
        by_ok false = reply (asks enter_programming) (refused Failed) (record s { device = tried.device }) refl refl refl

    does_left : Does (asks leave_programming) (replied number okay (record s { mode = stopped; machine = restarted s.machine }))
    does_left = inl (reply_with (asks leave_programming) okay (record s { mode = stopped; machine = restarted s.machine }) refl refl
        (λ h. inl h))

    does_write : (asked : Request) (kind : Option Memory) (address : ℕ) (bytes : List ℕ) →
        Does asked (write_of part kind number address bytes s)
    does_write asked None address bytes = refuse asked IllegalMemoryType
    does_write asked (Some kind) address bytes =
        does_if asked (nat_lt (memory_size part kind) (address + length bytes) || not (in_whole_units kind address (length bytes)))
        (replied number (refused IllegalMemoryRange) s) (written_to part kind number address bytes s)
        (refuse asked IllegalMemoryRange) (does_written asked kind address bytes)

    does_numbered : (asked : Request) (n address : ℕ) → Does asked (set_numbered part number n address s)
    does_numbered asked zero address =
        does_if asked (may_set part s address) (replied number okay (record s { soft = inserted address s.soft })) (no_breakpoint number s)
        (reply asked okay (record s { soft = inserted address s.soft }) refl refl refl) (refuse asked IllegalBreakpoint)
    does_numbered asked (suc n) address =
        reply asked okay (record s { comparators = slice_set s.comparators n (Some address) }) refl refl refl

    does_clear : (asked : Request) (n address : ℕ) → Does asked (break_cleared number n address s)
    does_clear asked zero address =
        does_if asked (has s.soft address) (replied number okay (record s { soft = without address s.soft })) (no_breakpoint number s)
        (reply asked okay (record s { soft = without address s.soft }) refl refl refl) (refuse asked IllegalBreakpoint)
    does_clear asked (suc n) address =
        does_if asked (is_set (slice_get s.comparators n)) (replied number okay (record s { comparators = slice_set s.comparators n None }))
        (no_breakpoint number s)
        (reply asked okay (record s { comparators = slice_set s.comparators n None }) refl refl refl) (refuse asked IllegalBreakpoint)

    does_prepared : (asked : Request) (to : Option ℕ) → Does asked (prepared part number to s)
    does_prepared asked to = by_ok tried.ok
      where
        tried : Tried
        tried = synced part (patch s.prog (without s.machine.pc (targets_by to s.soft))) s.device

        by_ok : (b : Bool) → Does asked (elim b [
          | true ↦ record s { mode = launching number; run_to = to; device = tried.device; stop_asked = false }
          | false ↦ replied number (refused Failed) (record s { device = tried.device; run_to = None })
        ])
        by_ok true = inr (record { mode = refl; sent = refl; cleared = refl })
        by_ok false = reply asked (refused Failed) (record s { device = tried.device; run_to = None }) refl refl refl

    does_single : Does (asks single_step) (single_stepped planted part number s)
    does_single = by_ok tried.ok
      where
        tried : Tried
        tried = synced part (patch s.prog (without s.machine.pc s.soft)) s.device

        t : Debugger
        t = replied number okay (record s { device = tried.device })

        answered_so : Answers (asks single_step) t
        answered_so = reply_with (asks single_step) okay (record s { device = tried.device }) refl listening (λ h. inl h)

        by_ahead : (b : Bool) → is_undefined (ahead part s.machine (step_of planted s).first) ≡ b → Answers (asks single_step) (elim b [
          | true ↦ told undefined t
          | false ↦ told by_step (record t { machine = stepped part (step_of planted s) })
        ])
        by_ahead true e =
            told_with (asks single_step) undefined t answered_so
            (inr (
              refl,
              sym (program_ahead part planted s.machine s.prog s.soft) ∙
                  only_undefined (ahead part s.machine (step_of planted s).first) e,
            ))
        by_ahead false e =
            told_with (asks single_step) by_step (record t { machine = stepped part (step_of planted s) })
            (record {
              more = answered_so.more;
              sent = answered_so.sent;
              each = answered_so.each;
              quiet = answered_so.quiet;
              deaf = answered_so.deaf;
              stops = answered_so.stops;
            }) (inl refl)

        by_ok : (b : Bool) → Does (asks single_step) (elim b [
          | true ↦ step_told planted part t
          | false ↦ replied number (refused Failed) (record s { device = tried.device })
        ])
        by_ok true = inl (by_ahead (is_undefined (ahead part s.machine (step_of planted s).first)) refl)
        by_ok false = reply (asks single_step) (refused Failed) (record s { device = tried.device }) refl refl refl

    does_reset : Does (asks reset) (told by_reset (replied number okay (record s { machine = restarted s.machine })))
    does_reset =
        let t : Debugger = record s { machine = restarted s.machine } in
        inl (told_with (asks reset) by_reset (replied number okay t) (reply_with (asks reset) okay t refl listening (λ h. inl h)) refl)

    does_off : Does (asks sign_off) (left part (replied number okay s))
    does_off =
        let t = replied number okay s in
        let frame : Frame = record { number = number; body = response_body okay } in
        inl (record {
          more = frame ∷ [];
          sent = left_sends part t.mode t;
          each = one_frame (asks sign_off) frame (inl refl);
          quiet = left_quiet part t.mode t listening;
          deaf = λ h. refl;
          stops = λ h. inr refl;
        })

    carried : (command : Command) → Does (asks command) (carried_out planted part number command s)
    carried sign_off = does_off
    carried get_sign_on = reply (asks get_sign_on) (signed_on own_head own_name) s refl refl refl
    carried (set_parameter id value) = does_parameter (asks (set_parameter id value)) (parameter_written s.parameters id value)
    carried (get_parameter id) =
        reply (asks (get_parameter id)) (parameter_response (parameter_read s.parameters (state_number s.mode) id)) s refl refl refl
    carried (write_memory kind address bytes) =
        does_write (asks (write_memory kind address bytes)) ((access_of s.mode kind).written) address bytes
    carried (read_memory kind count address) =
        reply (asks (read_memory kind count address)) (read_of part (access_of s.mode kind).read count address s) s refl refl refl
    carried (write_pc address) =
        does_if (asks (write_pc address)) (nat_lt address (words_of part))
        (replied number okay (record s { machine = with_pc address s.machine }))
        (replied number (refused IllegalMemoryRange) s)
        (reply (asks (write_pc address)) okay (record s { machine = with_pc address s.machine }) refl refl refl)
        (refuse (asks (write_pc address)) IllegalMemoryRange)
    carried read_pc = reply (asks read_pc) (program_counter s.machine.pc) s refl refl refl
    carried go = does_prepared (asks go) None
    carried single_step = does_single
    carried forced_stop = inl (reply_with (asks forced_stop) okay (record s { stop_asked = true }) refl listening (λ h. inr refl))
    carried reset = does_reset
    carried (set_device_descriptor bytes) = reply (asks (set_device_descriptor bytes)) okay s refl refl refl
    carried (erase_page address) =
        does_if (asks (erase_page address)) (nat_lt address (flash_bytes part))
        (programming_told number (erased_page part (address / page_bytes) s.prog s.device) s)
        (replied number (refused IllegalMemoryRange) s)
        (does_programmed (asks (erase_page address)) (erased_page part (address / page_bytes) s.prog s.device))
        (refuse (asks (erase_page address)) IllegalMemoryRange)
    carried chip_erase = does_programmed (asks chip_erase) (erased_all part s.prog s.device)
    carried enter_programming = does_entered (synced part s.prog s.device)
    carried leave_programming = does_left
    carried get_sync = reply (asks get_sync) okay s refl refl refl
    carried (set_break kind n address) =
        does_if (asks (set_break kind n address)) ((kind == program_break) && nat_le n comparator_count && nat_lt address (words_of part))
        (set_numbered part number n address s) (no_breakpoint number s)
        (does_numbered (asks (set_break kind n address)) n address) (refuse (asks (set_break kind n address)) IllegalBreakpoint)
    carried (clear_break n address) = does_clear (asks (clear_break n address)) n address
    carried (run_to address) =
        does_if (asks (run_to address)) (plantable part s.prog address) (prepared part number (Some address) s) (no_breakpoint number s)
        (does_prepared (asks (run_to address)) (Some address)) (refuse (asks (run_to address)) IllegalBreakpoint)
    carried clear_events = reply (asks clear_events) okay s refl refl refl

    requested : (asked : Request) → Does asked (answered planted part number asked s)
    requested unknown_code = refuse unknown_code IllegalCommand
    requested wrong_length = refuse wrong_length IllegalValue
    requested (asks command) = by_allowed (allowed s.mode command)
      where
        by_allowed : (b : Bool) → Does (asks command) (elim b [
          | true ↦ carried_out planted part number command s
          | false ↦ replied number (refused IllegalMcuState) s
        ])
        by_allowed true = carried command
        by_allowed false = refuse (asks command) IllegalMcuState

  -- the launch of a run that was prepared answers too
  record Sends (asked : Request) (t : Debugger) : Type 0 where
    more : List Frame
    sent : t.sent ≡ s.sent ++ more
    each : All (IsSentFor asked) more

  nothing_sent : (asked : Request) (t : Debugger) → t.sent ≡ s.sent → Sends asked t
  nothing_sent asked t h = record { more = []; sent = h ∙ sym (append-nil s.sent); each = All-nil (IsSentFor asked) }

  launch_sends : (asked : Request) (t : Debugger) → t.sent ≡ s.sent → (b : Bool) → Sends asked (launch_told b number t)
  launch_sends asked t h true =
      let frame : Frame = record { number = number; body = response_body okay } in
      record { more = frame ∷ []; sent = ap (λ (sent : List Frame). sent ++ frame ∷ []) h; each = one_frame asked frame (inl refl) }
  launch_sends asked t h false =
      let frame : Frame = record { number = number; body = response_body (refused Failed) } in
      record { more = frame ∷ []; sent = ap (λ (sent : List Frame). sent ++ frame ∷ []) h; each = one_frame asked frame (inl refl) }

  not_launching : (t : Debugger) → is_launching t.mode ≡ false → (n : ℕ) → t.mode ≡ launching n → ⊥
  not_launching t quiet n e = true≢false (ap is_launching (sym e) ∙ quiet)

  does_send : (asked : Request) (t : Debugger) → Does asked t → Sends asked (launch_if_prepared t)
  does_send asked t (inl a) =
      subst (Sends asked) (sym (no_launch t.mode t (not_launching t a.quiet))) (record { more = a.more; sent = a.sent; each = a.each })
  does_send asked t (inr p) =
      subst (Sends asked) (sym (ap (λ (m : Mode). launch_in m t) p.mode)) (launch_sends asked t p.sent (launched t.device).ok)

  request_sends : (asked : Request) (b : Bool) → listens s.mode ≡ b →
      Sends asked (elim b [ true ↦ launch_if_prepared (answered planted part number asked s) | false ↦ s ])
  request_sends asked true listening = does_send asked (answered planted part number asked s) (requested listening asked)
  request_sends asked false deaf = nothing_sent asked s refl

  request_stops : (asked : Request) (b : Bool) → listens s.mode ≡ b →
      (heard_if b (answered planted part number asked s) s).stop_asked ≡ true → (s.stop_asked ≡ true) ⊎
      (asks_stop (request number asked) ≡ true)
  request_stops asked true listening h = elim (requested listening asked) [
    | inl a ↦ a.stops h
    | inr p ↦ absurd (true≢false (sym h ∙ p.cleared))
  ]
  request_stops asked false deaf h = inl h

  request_clears : (asked : Request) (b : Bool) → listens s.mode ≡ b → (n : ℕ) → ((other : ℕ) → s.mode ≡ launching other → ⊥) →
      (heard_if b (answered planted part number asked s) s).mode ≡ launching n →
      (heard_if b (answered planted part number asked s) s).stop_asked ≡ false
  request_clears asked true listening n none h = elim (requested listening asked) [
    | inl a ↦ absurd (not_launching (answered planted part number asked s) a.quiet n h)
    | inr p ↦ p.cleared
  ]
  request_clears asked false deaf n none h = absurd (none n h)

  -- behind the launch of a run that was prepared the debugger listens
  does_listen : (asked : Request) (t : Debugger) → Does asked t → listens (launch_if_prepared t).mode ≡ false →
      asks_off (request number asked) ≡ true
  does_listen asked t (inl a) h = a.deaf (sym (ap (λ (x : Debugger). listens x.mode) (no_launch t.mode t (not_launching t a.quiet))) ∙ h)
  does_listen asked t (inr p) h = absurd (true≢false (sym (listens-launched t.mode t ∙ ap goes_on p.mode) ∙ h))

  request_ends : (asked : Request) (b : Bool) → listens s.mode ≡ b → b ≡ true →
      listens (heard_if b (launch_if_prepared (answered planted part number asked s)) s).mode ≡ false →
      asks_off (request number asked) ≡ true
  request_ends asked true listening e h = does_listen asked (answered planted part number asked s) (requested listening asked) h
  request_ends asked false deaf e h = absurd (true≢false (sym e))

module _ (planted : Bool) (part : Chip) (count : ℕ) (s : Debugger) where
  drop_listens : (b : Bool) → listens s.mode ≡ b → b ≡ true → listens (heard_if b (launch_if_prepared (dropping count s)) s).mode ≡ true
  drop_listens true listening e = ap (λ (t : Debugger). listens t.mode) (listening_launch s.mode (dropping count s) listening) ∙ listening
  drop_listens false deaf e = absurd (true≢false (sym e))

  drop_sends : (b : Bool) → listens s.mode ≡ b → (heard_if b (launch_if_prepared (dropping count s)) s).sent ≡ s.sent
  drop_sends true listening = ap (λ (t : Debugger). t.sent) (listening_launch s.mode (dropping count s) listening)
  drop_sends false deaf = refl

  drop_stops : (b : Bool) → (heard_if b (dropping count s) s).stop_asked ≡ true → s.stop_asked ≡ true
  drop_stops true h = h
  drop_stops false h = h

  drop_mode : (b : Bool) → (heard_if b (dropping count s) s).mode ≡ s.mode
  drop_mode true = refl
  drop_mode false = refl

ended_keeps : (planted : Bool) (part : Chip) (e : End) (m : Mode) (s : Debugger) →
    (run_ended planted part e (at m s)).stop_asked ≡ s.stop_asked
ended_keeps planted part e running s = refl
ended_keeps planted part e leaving s = refl
ended_keeps planted part e _ s = refl

pub events_have_reasons : EventsHaveReasons
events_have_reasons = record {
  ends = λ planted part s e may. end_is_told part planted s e may;
  requests = λ planted part number asked s.
      let r = request_sends planted part number s asked (listens s.mode) refl in record { more = r.more; sent = r.sent; each = r.each };
  drops = λ planted part count s. drop_sends planted part count s (listens s.mode) refl;
  line_end = λ part held s. line_sends true part held s.mode s;
}

stops_by : (planted : Bool) (part : Chip) (heard : Heard) (s : Debugger) → (item planted part heard s).stop_asked ≡ true →
    (s.stop_asked ≡ true) ⊎ (asks_stop heard ≡ true)
stops_by planted part (request number asked) s h = request_stops planted part number s asked (listens s.mode) refl h
stops_by planted part (dropped count) s h = inl (drop_stops planted part count s (listens s.mode) h)

clears_by : (planted : Bool) (part : Chip) (heard : Heard) (s : Debugger) (number : ℕ) → ((other : ℕ) → s.mode ≡ launching other → ⊥) →
    (item planted part heard s).mode ≡ launching number → (item planted part heard s).stop_asked ≡ false
clears_by planted part (request number asked) s n none h = request_clears planted part number s asked (listens s.mode) refl n none h
clears_by planted part (dropped count) s n none h = absurd (none n (sym (drop_mode planted part count s (listens s.mode)) ∙ h))

pub stops_are_asked : StopsAreAsked
stops_are_asked = record {
  by_item = stops_by;
  prepared = clears_by;
  launch = λ s. launch_keeps s.mode s;
  end = λ planted part e s. ended_keeps planted part e s.mode s;
}

pub sign_offs_end : SignOffsEnd
sign_offs_end planted part (request number asked) s listening h = request_ends planted part number s asked (listens s.mode) refl listening h
sign_offs_end planted part (dropped count) s listening h =
    absurd (true≢false (sym (drop_listens planted part count s (listens s.mode) refl listening) ∙ h))
