-- What one request is answered: its reply, and behind it events.
use Rattle.std.proofs.Common.{◌≡◌, ℕ, zero, suc, ◌+◌, ◌≤◌, ◌==◌, ◌&&◌, cond, Bool, true, false, List, [], ◌∷◌, ◌++◌, length, Option, Some}
use Rattle.std.proofs.Common.{None, refl, sym, ◌∙◌, ap, subst, arith, append-nil, append_assoc, length-append, ◌⊎◌, inl, inr}
use Rattle.std.specs.Prelude.{Result, Ok, Err, nat_le, nat_lt, slice_get, slice_set, not, ◌||◌, ◌/◌, if◌then◌else◌}
use Rattle.std.proofs.lemmas.Bool.{true≢false, and_parts, eqb-true, ltb-false}
use Rattle.part_spec.specs.Chip.{Chip, words_of, flash_bytes, page_bytes}
use Rattle.avr_spec.specs.Machine.{restarted}
use Rattle.avr_spec.specs.Memory.{store}
use Rattle.avr_spec.specs.Effect.{with_pc, with_io}
use Rattle.avr_spec.specs.Step.{ahead}
use Rattle.line_spec.specs.Frames.{Frame}
use Rattle.line_spec.specs.declared.refusal.Refusal.{Refusal}
use Rattle.line_spec.specs.declared.refusal.Refusal.TheVariants.{Failed, IllegalBreakpoint, IllegalMemoryType, IllegalMemoryRange}
use Rattle.line_spec.specs.declared.refusal.Refusal.TheVariants.{IllegalMcuState}
use Rattle.line_spec.specs.Messages.{Command, sign_off, get_sign_on, set_parameter, get_parameter, write_memory, read_memory, write_pc}
use Rattle.line_spec.specs.Messages.{read_pc, go, single_step, forced_stop, reset, set_device_descriptor, erase_page, get_sync, set_break}
use Rattle.line_spec.specs.Messages.{chip_erase, enter_programming, leave_programming, clear_break, run_to, clear_events, Response}
use Rattle.line_spec.specs.Messages.{okay, memory, program_counter, signed_on, refused, own_head, own_name}
use Rattle.line_spec.specs.Messages.{memory_limit}
use Rattle.line_spec.specs.Hearing.{request, asks}
use Rattle.line_spec.specs.Parameters.{Parameter, parameters_at_start, parameter_of, value_of, parameter_read, mcu_state}
use Rattle.line_spec.specs.Parameters.{accepts, takes, write_refusal, with_value, written_at, parameter_written}
use Rattle.debug_spec.specs.Patch.{has, without, patch, plantable}
use Rattle.debug_spec.specs.Stop.{Cause, by_step, by_reset, undefined}
use Rattle.debug_spec.specs.Run.{End, stepped, is_undefined}
use Rattle.debug_spec.specs.Device.{Tried, synced, launched}
use Rattle.debug_spec.specs.Programming.{Programmed, erased_all, erased_page}
use Rattle.debug_spec.specs.Debugger.{Mode, stopped, launching, running, programming, leaving, closed, Debugger, comparator_count, listens}
use Rattle.debug_spec.specs.Debugger.{state_number, targets_by, replied, told}
use Rattle.debug_spec.specs.Running.{left, launch_in, launch_if_prepared, prepared, step_of, step_told, single_stepped, stopped_at}
use Rattle.debug_spec.specs.Breakpoints.{program_break, inserted, may_set, set_numbered, break_cleared, is_set, no_breakpoint}
use Rattle.debug_spec.specs.MemoryTypes.{Memory, data_space, io_space, program, fuses, lock_bits, signature, access_of, memory_size}
use Rattle.debug_spec.specs.MemoryTypes.{byte_in, bytes_from, in_whole_units, read_of, write_of, written_to, stored_from, pages_programmed}
use Rattle.debug_spec.specs.MemoryTypes.{programming_told}
use Rattle.debug_spec.specs.Commands.{parameter_response, parameter_set, allowed, entered_by, carried_out, answered, item_launched}
use Rattle.debug_spec.specs.Replay.{end_now, ended_if, over, settled, steps_for}
use Rattle.debug_spec.proofs.Soundness.{at, event, reply}
use Rattle.debug_spec.proofs.TakeLemmas.{launch_told}
use Rattle.debug_spec.proofs.TakeChunks.{no_launch}
use Rattle.script_laws.specs.Waiting.{Each, AreShort}
use Rattle.script_laws.specs.Answers.{IsShort, IsTold, IsAnswered}
use Rattle.script_laws.proofs.Streams.{each-append}

pub short_at_start : AreShort parameters_at_start
short_at_start = (
  omega arith,
  (
    omega arith,
    (
      omega arith,
      (
        omega arith,
        (
          omega arith,
          (
            omega arith,
            (
              omega arith,
              (
                omega arith,
                (omega arith, (omega arith, (omega arith, (omega arith, tt)))),
              ),
            ),
          ),
        ),
      ),
    ),
  ),
)

short_if : (b : Bool) (x y : Response) → IsShort x → IsShort y → IsShort (cond b x y)
short_if true x y h k = h
short_if false x y h k = k

short_value : (parameters : List Parameter) (id : ℕ) → AreShort parameters → IsShort (parameter_response (value_of (parameter_of parameters id)))
short_value [] id h = tt
short_value (one ∷ parameters) id h = by_test (id == one.id) (short_value parameters id h.1)
  where
    by_test : (b : Bool) → IsShort (parameter_response (value_of (parameter_of parameters id))) →
        IsShort (parameter_response (value_of (cond b (Some one) (parameter_of parameters id))))
    by_test true later = h.0
    by_test false later = later

short_read : (parameters : List Parameter) (state id : ℕ) → AreShort parameters →
    IsShort (parameter_response (parameter_read parameters state id))
short_read parameters state id h = by_test (id == mcu_state)
  where
    by_test : (b : Bool) → IsShort (parameter_response (cond b (Ok (state ∷ [])) (value_of (parameter_of parameters id))))
    by_test true = omega arith
    by_test false = short_value parameters id h

length-bytes_from : (byte_at : ℕ → ℕ) (address count : ℕ) → length (bytes_from byte_at address count) ≡ count
length-bytes_from byte_at address zero = refl
length-bytes_from byte_at address (suc count) = ap suc (length-bytes_from byte_at (suc address) count)

short_memory : (part : Chip) (kind : Option Memory) (count address : ℕ) (s : Debugger) → IsShort (read_of part kind count address s)
short_memory part None count address s = tt
short_memory part (Some kind) count address s = by_test (nat_lt memory_limit count) refl (nat_lt (memory_size part kind) (address + count))
  where
    by_test : (b : Bool) → nat_lt memory_limit count ≡ b → (c : Bool) →
        IsShort (cond (b || c) (refused IllegalMemoryRange) (memory (bytes_from (byte_in part kind s) address count)))
    by_test true e c = tt
    by_test false e true = tt
    by_test false e false = omega (arith, ltb-false memory_limit count e, length-bytes_from (byte_in part kind s) address count)

-- a value of the parameter's size is written
short_written : (parameters : List Parameter) (id : ℕ) (value : List ℕ) → AreShort parameters → length value ≤ 4 →
    AreShort (with_value parameters id value)
short_written [] id value h few = tt
short_written (one ∷ parameters) id value h few = by_test (id == one.id) (short_written parameters id value h.1 few)
  where
    by_test : (b : Bool) → AreShort (with_value parameters id value) →
        AreShort (cond b (record one { value = value } ∷ parameters) (one ∷ with_value parameters id value))
    by_test true later = (few, h.1)
    by_test false later = (h.0, later)

-- the parameters that a write leaves, if it is not refused
abbrev ShortAfter : List Parameter → Result (List Parameter) Refusal → Type 0
ShortAfter parameters (Ok now) = AreShort now
ShortAfter parameters (Err refusal) = AreShort parameters

short_there : (parameters : List Parameter) (id : ℕ) → AreShort parameters → (p : Parameter) → parameter_of parameters id ≡ Some p →
    length p.value ≤ 4
short_there [] id h p e = cc
short_there (one ∷ parameters) id h p e = by_test (id == one.id) e (λ f. short_there parameters id h.1 p f)
  where
    by_test : (b : Bool) → cond b (Some one) (parameter_of parameters id) ≡ Some p →
        (parameter_of parameters id ≡ Some p → length p.value ≤ 4) → length p.value ≤ 4
    by_test true f later = let same : one ≡ p = cc in omega (arith, h.0, ap (λ (q : Parameter). length q.value) same)
    by_test false f later = later f

short_set : (parameters : List Parameter) (id : ℕ) (value : List ℕ) → AreShort parameters →
    ShortAfter parameters (parameter_written parameters id value)
short_set parameters id value h = by_there (parameter_of parameters id) refl
  where
    by_there : (o : Option Parameter) → parameter_of parameters id ≡ o → ShortAfter parameters (written_at o parameters id value)
    by_there None e = h
    by_there (Some p) e = by_takes (takes p value) refl
      where
        by_takes : (b : Bool) → takes p value ≡ b →
            ShortAfter parameters (cond b (Ok (with_value parameters id value)) (Err (write_refusal p.accepted)))
        by_takes true t =
            let sizes : length value ≡ length p.value =
            eqb-true (length value) (length p.value) (and_parts (length value == length p.value) (accepts p.accepted value) t).0 in
            short_written parameters id value h (omega (arith, sizes, short_there parameters id h p e))
        by_takes false t = h

pub told_so : (cause : Cause) (s : Debugger) → IsTold (event cause s)
told_so cause s = record { address = s.machine.pc; cause = cause; is = refl }

-- events alone are sent
pub record Tells (s t : Debugger) : Type 0 where
  pub events : List Frame
  pub each : Each IsTold events
  pub few : length events ≤ 1
  pub sent : t.sent ≡ s.sent ++ events
  pub parameters : t.parameters ≡ s.parameters

tells_none : (s t : Debugger) → t.sent ≡ s.sent → t.parameters ≡ s.parameters → Tells s t
tells_none s t same parameters =
    record { events = []; each = tt; few = omega arith; sent = same ∙ sym (append-nil s.sent); parameters = parameters }

tells_one : (cause : Cause) (s u t : Debugger) → t.sent ≡ s.sent ++ event cause u ∷ [] → t.parameters ≡ s.parameters → Tells s t
tells_one cause s u t sent parameters = record {
  events = event cause u ∷ [];
  each = (told_so cause u, tt);
  few = omega arith;
  sent = sent;
  parameters = parameters;
}

-- a run is prepared
abbrev is_launching : Mode → Bool
is_launching (launching number) = true
is_launching _ = false

listening_quiet : (m : Mode) → listens m ≡ true → is_launching m ≡ false
listening_quiet (launching number) h = absurd (true≢false (sym h))
listening_quiet _ h = refl

left_quiet : (part : Chip) (m : Mode) (s : Debugger) → listens m ≡ true → is_launching (left part (at m s)).mode ≡ false
left_quiet part (launching number) s h = absurd (true≢false (sym h))
left_quiet part _ s h = refl

left_sends : (part : Chip) (m : Mode) (s : Debugger) → (left part (at m s)).sent ≡ s.sent
left_sends part stopped s = refl
left_sends part _ s = refl

left_keeps : (part : Chip) (m : Mode) (s : Debugger) → (left part (at m s)).parameters ≡ s.parameters
left_keeps part stopped s = refl
left_keeps part _ s = refl

module _ (planted : Bool) (part : Chip) (stops : List ℕ) where
  tells_ended : (o : Option End) (m : Mode) (s : Debugger) → Tells (at m s) (ended_if planted part o (at m s))
  tells_ended None m s = tells_none (at m s) (at m s) refl refl
  tells_ended (Some e) stopped s = tells_none (at stopped s) (at stopped s) refl refl
  tells_ended (Some e) (launching number) s = tells_none (at (launching number) s) (at (launching number) s) refl refl
  tells_ended (Some e) running s =
      tells_one e.cause (at running s) (stopped_at planted part e (at running s)) (ended_if planted part (Some e) (at running s)) refl refl
  tells_ended (Some e) programming s = tells_none (at programming s) (at programming s) refl refl
  tells_ended (Some e) leaving s = tells_none (at leaving s) (ended_if planted part (Some e) (at leaving s)) refl refl
  tells_ended (Some e) (closed done) s = tells_none (at (closed done) s) (at (closed done) s) refl refl

  -- what happens between two items
  pub tells_settled : (m : Mode) (s : Debugger) → Tells (at m s) (settled planted part stops (at m s))
  tells_settled stopped s = tells_none (at stopped s) (at stopped s) refl refl
  tells_settled (launching number) s = tells_none (at (launching number) s) (at (launching number) s) refl refl
  tells_settled running s = tells_ended (end_now planted part (steps_for stops s.launches) (at running s)) running s
  tells_settled programming s = tells_none (at programming s) (at programming s) refl refl
  tells_settled leaving s = tells_ended (end_now planted part (steps_for stops s.launches) (at leaving s)) leaving s
  tells_settled (closed done) s = tells_none (at (closed done) s) (at (closed done) s) refl refl

  listens_ended : (o : Option End) (m : Mode) (s : Debugger) → listens m ≡ true → listens (ended_if planted part o (at m s)).mode ≡ true
  listens_ended None m s h = h
  listens_ended (Some e) stopped s h = refl
  listens_ended (Some e) (launching number) s h = h
  listens_ended (Some e) running s h = refl
  listens_ended (Some e) programming s h = refl
  listens_ended (Some e) leaving s h = absurd (true≢false (sym h))
  listens_ended (Some e) (closed done) s h = h

  -- a debugger that listens does so behind it too
  pub listens_settled : (m : Mode) (s : Debugger) → listens m ≡ true → listens (settled planted part stops (at m s)).mode ≡ true
  listens_settled stopped s h = refl
  listens_settled (launching number) s h = h
  listens_settled running s h = listens_ended (end_now planted part (steps_for stops s.launches) (at running s)) running s h
  listens_settled programming s h = refl
  listens_settled leaving s h = absurd (true≢false (sym h))
  listens_settled (closed done) s h = h

module _ (planted : Bool) (part : Chip) (number : ℕ) (s : Debugger) where
  -- a request is answered
  record Answers (t : Debugger) : Type 0 where
    response : Response
    short : AreShort s.parameters → IsShort response
    events : List Frame
    each : Each IsTold events
    few : length events ≤ 1
    sent : t.sent ≡ s.sent ++ reply number response ∷ events
    table : AreShort s.parameters → AreShort t.parameters
    quiet : is_launching t.mode ≡ false

  -- or its run is prepared
  record Prepares (t : Debugger) : Type 0 where
    mode : t.mode ≡ launching number
    sent : t.sent ≡ s.sent
    parameters : t.parameters ≡ s.parameters

  abbrev Does : Debugger → Type 0
  Does t = Answers t ⊎ Prepares t

  -- by a reply from a state that has sent nothing more
  reply_with : (response : Response) → (AreShort s.parameters → IsShort response) → (t : Debugger) → t.sent ≡ s.sent →
      (AreShort s.parameters → AreShort t.parameters) → is_launching t.mode ≡ false → Answers (replied number response t)
  reply_with response short t same table quiet = record {
    response = response;
    short = short;
    events = [];
    each = tt;
    few = omega arith;
    sent = ap (λ (sent : List Frame). sent ++ reply number response ∷ []) same;
    table = table;
    quiet = quiet;
  }

  -- and an event behind it
  told_with : (response : Response) → (AreShort s.parameters → IsShort response) → (cause : Cause) (t : Debugger) →
      t.sent ≡ s.sent ++ reply number response ∷ [] → t.parameters ≡ s.parameters → is_launching t.mode ≡ false → Answers (told cause t)
  told_with response short cause t sent parameters quiet = record {
    response = response;
    short = short;
    events = event cause t ∷ [];
    each = (told_so cause t, tt);
    few = omega arith;
    sent = ap (λ (sent : List Frame). sent ++ event cause t ∷ []) sent ∙ append_assoc s.sent (reply number response ∷ []) (event cause t ∷ []);
    table = λ h. subst AreShort (sym parameters) h;
    quiet = quiet;
  }

  does_if : (b : Bool) (x y : Debugger) → Does x → Does y → Does (cond b x y)
  does_if true x y h k = h
  does_if false x y h k = k

  module _ (listening : listens s.mode ≡ true) where
    answer : (response : Response) → (AreShort s.parameters → IsShort response) → (t : Debugger) → t.sent ≡ s.sent → t.mode ≡ s.mode →
        t.parameters ≡ s.parameters → Does (replied number response t)
    answer response short t sent mode parameters = inl (reply_with response short t sent
        (λ h. subst AreShort (sym parameters) h) (ap is_launching mode ∙ listening_quiet s.mode listening))

    refuse : (refusal : Refusal) → Does (replied number (refused refusal) s)
    refuse refusal = answer (refused refusal) (λ h. tt) s refl refl refl

    does_parameter : (result : Result (List Parameter) Refusal) → (AreShort s.parameters → ShortAfter s.parameters result) →
        Does (parameter_set number result s)
    does_parameter (Ok parameters) after = inl (reply_with okay (λ h. tt) (record s { parameters = parameters }) refl after
        (listening_quiet s.mode listening))
    does_parameter (Err refusal) after = refuse refusal

    does_programmed : (done : Programmed) → Does (programming_told number done s)
    does_programmed done =
        answer (if done.ok then okay else refused Failed) (λ h. short_if done.ok okay (refused Failed) tt tt)
        (record s { prog = done.prog; device = done.device }) refl refl refl

    does_written : (kind : Memory) (address : ℕ) (bytes : List ℕ) → Does (written_to part kind number address bytes s)
    does_written data_space address bytes =
        answer okay (λ h. tt) (record s { machine = stored_from (store part) address bytes s.machine }) refl refl refl
    does_written io_space address bytes =
        answer okay (λ h. tt) (record s { machine = stored_from with_io address bytes s.machine }) refl refl refl
    does_written program address bytes = does_programmed (pages_programmed address bytes s.prog s)
    does_written fuses address bytes = refuse IllegalMemoryType
    does_written lock_bits address bytes = refuse IllegalMemoryType
    does_written signature address bytes = refuse IllegalMemoryType

    does_entered : (tried : Tried) → Does (entered_by number tried s)
    does_entered tried = by_ok tried.ok
      where
        entered : Debugger
        entered = record s { mode = programming; soft = []; device = tried.device }

        by_ok : (b : Bool) → Does (elim b [
          | true ↦ replied number okay entered
          | false ↦ replied number (refused Failed) (record s { device = tried.device })
        ])
        by_ok true = inl (reply_with okay (λ h. tt) entered refl (λ h. h) refl)
        by_ok false = answer (refused Failed) (λ h. tt) (record s { device = tried.device }) refl refl refl

    does_left : Does (replied number okay (record s { mode = stopped; machine = restarted s.machine }))
    does_left = inl (reply_with okay (λ h. tt) (record s { mode = stopped; machine = restarted s.machine }) refl (λ h. h) refl)

    does_write : (kind : Option Memory) (address : ℕ) (bytes : List ℕ) → Does (write_of part kind number address bytes s)
    does_write None address bytes = refuse IllegalMemoryType
    does_write (Some kind) address bytes =
        does_if (nat_lt (memory_size part kind) (address + length bytes) || not (in_whole_units kind address (length bytes)))
        (replied number (refused IllegalMemoryRange) s) (written_to part kind number address bytes s)
        (refuse IllegalMemoryRange) (does_written kind address bytes)

    does_numbered : (n address : ℕ) → Does (set_numbered part number n address s)
    does_numbered zero address =
        does_if (may_set part s address) (replied number okay (record s { soft = inserted address s.soft })) (no_breakpoint number s)
        (answer okay (λ h. tt) (record s { soft = inserted address s.soft }) refl refl refl) (refuse IllegalBreakpoint)
    does_numbered (suc n) address =
        answer okay (λ h. tt) (record s { comparators = slice_set s.comparators n (Some address) }) refl refl refl

    does_clear : (n address : ℕ) → Does (break_cleared number n address s)
    does_clear zero address =
        does_if (has s.soft address) (replied number okay (record s { soft = without address s.soft })) (no_breakpoint number s)
        (answer okay (λ h. tt) (record s { soft = without address s.soft }) refl refl refl) (refuse IllegalBreakpoint)
    does_clear (suc n) address =
        does_if (is_set (slice_get s.comparators n)) (replied number okay (record s { comparators = slice_set s.comparators n None }))
        (no_breakpoint number s)
        (answer okay (λ h. tt) (record s { comparators = slice_set s.comparators n None }) refl refl refl) (refuse IllegalBreakpoint)

    does_prepared : (to : Option ℕ) → Does (prepared part number to s)
    does_prepared to = by_ok tried.ok
      where
        tried : Tried
        tried = synced part (patch s.prog (without s.machine.pc (targets_by to s.soft))) s.device

        by_ok : (b : Bool) → Does (elim b [
          | true ↦ record s { mode = launching number; run_to = to; device = tried.device; stop_asked = false }
          | false ↦ replied number (refused Failed) (record s { device = tried.device; run_to = None })
        ])
        by_ok true = inr (record { mode = refl; sent = refl; parameters = refl })
        by_ok false = answer (refused Failed) (λ h. tt) (record s { device = tried.device; run_to = None }) refl refl refl

    does_single : Does (single_stepped planted part number s)
    does_single = by_ok tried.ok
      where
        tried : Tried
        tried = synced part (patch s.prog (without s.machine.pc s.soft)) s.device

        t : Debugger
        t = replied number okay (record s { device = tried.device })

        by_ahead : (b : Bool) → Answers (elim b [
          | true ↦ told undefined t
          | false ↦ told by_step (record t { machine = stepped part (step_of planted t) })
        ])
        by_ahead true = told_with okay (λ h. tt) undefined t refl refl (listening_quiet s.mode listening)
        by_ahead false = told_with okay (λ h. tt) by_step (record t { machine = stepped part (step_of planted t) }) refl refl
            (listening_quiet s.mode listening)

        by_ok : (b : Bool) → Does (elim b [
          | true ↦ step_told planted part t
          | false ↦ replied number (refused Failed) (record s { device = tried.device })
        ])
        by_ok true = inl (by_ahead (is_undefined (ahead part (step_of planted t).start (step_of planted t).first)))
        by_ok false = answer (refused Failed) (λ h. tt) (record s { device = tried.device }) refl refl refl

    does_off : Does (left part (replied number okay s))
    does_off =
        let t = replied number okay s in
        inl (record {
          response = okay;
          short = λ h. tt;
          events = [];
          each = tt;
          few = omega arith;
          sent = left_sends part t.mode t;
          table = λ h. subst AreShort (sym (left_keeps part t.mode t)) h;
          quiet = left_quiet part t.mode t listening;
        })

    carried : (command : Command) → Does (carried_out planted part number command s)
    carried sign_off = does_off
    carried get_sign_on = answer (signed_on own_head own_name) (λ h. (refl, refl)) s refl refl refl
    carried (set_parameter id value) = does_parameter (parameter_written s.parameters id value) (λ h. short_set s.parameters id value h)
    carried (get_parameter id) =
        answer (parameter_response (parameter_read s.parameters (state_number s.mode) id))
        (λ h. short_read s.parameters (state_number s.mode) id h) s refl refl refl
    carried (write_memory kind address bytes) = does_write ((access_of s.mode kind).written) address bytes
    carried (read_memory kind count address) =
        answer (read_of part (access_of s.mode kind).read count address s)
        (λ h. short_memory part (access_of s.mode kind).read count address s) s refl refl refl
    carried (write_pc address) =
        does_if (nat_lt address (words_of part)) (replied number okay (record s { machine = with_pc address s.machine }))
        (replied number (refused IllegalMemoryRange) s)
        (answer okay (λ h. tt) (record s { machine = with_pc address s.machine }) refl refl refl) (refuse IllegalMemoryRange)
    carried read_pc = answer (program_counter s.machine.pc) (λ h. tt) s refl refl refl
    carried go = does_prepared None
    carried single_step = does_single
    carried forced_stop = answer okay (λ h. tt) (record s { stop_asked = true }) refl refl refl
    carried reset =
        inl (told_with okay (λ h. tt) by_reset (replied number okay (record s { machine = restarted s.machine })) refl refl
        (listening_quiet s.mode listening))
    carried (set_device_descriptor bytes) = answer okay (λ h. tt) s refl refl refl
    carried (erase_page address) =
        does_if (nat_lt address (flash_bytes part)) (programming_told number (erased_page part (address / page_bytes) s.prog s.device) s)
        (replied number (refused IllegalMemoryRange) s)
        (does_programmed (erased_page part (address / page_bytes) s.prog s.device)) (refuse IllegalMemoryRange)
    carried chip_erase = does_programmed (erased_all part s.prog s.device)
    carried enter_programming = does_entered (synced part s.prog s.device)
    carried leave_programming = does_left
    carried get_sync = answer okay (λ h. tt) s refl refl refl
    carried (set_break kind n address) =
        does_if ((kind == program_break) && nat_le n comparator_count && nat_lt address (words_of part))
        (set_numbered part number n address s) (no_breakpoint number s) (does_numbered n address) (refuse IllegalBreakpoint)
    carried (clear_break n address) = does_clear n address
    carried (run_to address) =
        does_if (plantable part s.prog address) (prepared part number (Some address) s) (no_breakpoint number s)
        (does_prepared (Some address)) (refuse IllegalBreakpoint)
    carried clear_events = answer okay (λ h. tt) s refl refl refl

    requested : (command : Command) → Does (answered planted part number (asks command) s)
    requested command = by_allowed (allowed s.mode command)
      where
        by_allowed : (b : Bool) → Does (elim b [
          | true ↦ carried_out planted part number command s
          | false ↦ replied number (refused IllegalMcuState) s
        ])
        by_allowed true = carried command
        by_allowed false = refuse IllegalMcuState

  -- the launch of a run that was prepared answers too
  launch_answers : (t : Debugger) → t.sent ≡ s.sent → t.parameters ≡ s.parameters → (b : Bool) → Answers (launch_told b number t)
  launch_answers t sent parameters true = record {
    response = okay;
    short = λ h. tt;
    events = [];
    each = tt;
    few = omega arith;
    sent = ap (λ (frames : List Frame). frames ++ reply number okay ∷ []) sent;
    table = λ h. subst AreShort (sym parameters) h;
    quiet = refl;
  }
  launch_answers t sent parameters false = record {
    response = refused Failed;
    short = λ h. tt;
    events = [];
    each = tt;
    few = omega arith;
    sent = ap (λ (frames : List Frame). frames ++ reply number (refused Failed) ∷ []) sent;
    table = λ h. subst AreShort (sym parameters) h;
    quiet = refl;
  }

  not_launching : (t : Debugger) → is_launching t.mode ≡ false → (n : ℕ) → t.mode ≡ launching n → ⊥
  not_launching t quiet n e = true≢false (ap is_launching (sym e) ∙ quiet)

  does_answer : (t : Debugger) → Does t → Answers (launch_if_prepared t)
  does_answer t (inl a) = subst Answers (sym (no_launch t.mode t (not_launching t a.quiet))) a
  does_answer t (inr p) =
      subst Answers (sym (ap (λ (m : Mode). launch_in m t) p.mode)) (launch_answers t p.sent p.parameters (launched t.device).ok)

  item_answers : listens s.mode ≡ true → (command : Command) → (b : Bool) → listens s.mode ≡ b →
      Answers (elim b [ true ↦ launch_if_prepared (answered planted part number (asks command) s) | false ↦ s ])
  item_answers listening command true e = does_answer (answered planted part number (asks command) s) (requested listening command)
  item_answers listening command false e = absurd (true≢false (sym listening ∙ e))

pub request_answered : (planted : Bool) (part : Chip) (stops : List ℕ) (number : ℕ) (command : Command) (s : Debugger) →
    listens s.mode ≡ true → IsAnswered number s (over planted part stops (request number (asks command) ∷ []) s)
request_answered planted part stops number command s listening =
    let t = item_launched planted part (request number (asks command)) s in
    let a = item_answers planted part number s listening command (listens s.mode) refl in
    let e = tells_settled planted part stops t.mode t in
    record {
      response = a.response;
      short = a.short;
      events = a.events ++ e.events;
      each = each-append IsTold a.events e.events a.each e.each;
      few = omega (arith, length-append a.events e.events, a.few, e.few);
      sent = e.sent ∙ ap (λ (frames : List Frame). frames ++ e.events) a.sent ∙
          append_assoc s.sent (reply number a.response ∷ a.events) e.events;
      table = λ h. subst AreShort (sym e.parameters) (a.table h);
    }
