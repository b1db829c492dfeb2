-- What a made session sends: few frames, whose numbers and sizes fit their bytes.
use Rattle.std.proofs.Common.{◌≡◌, ℕ, zero, suc, ◌+◌, ◌*◌, ◌<◌, ◌≤◌, ◌/◌, ◌%◌, ◌^◌, cond, Bool, true, false, List, [], ◌∷◌, ◌++◌, length}
use Rattle.std.proofs.Common.{Option, Some, None, refl, sym, ap, subst, ◌∙◌, arith, append_assoc, append-nil, length-append, slice_index_or}
use Rattle.std.specs.Prelude.{◌||◌, nat_lt}
use Rattle.std.specs.List.{All}
use Rattle.std.proofs.lemmas.List.Elements.{All-nil, All-cons, All-append}
use Rattle.part_spec.specs.Chip.{Chip}
use Rattle.avr_spec.specs.Step.{ahead}
use Rattle.line_spec.specs.Frames.{Frame}
use Rattle.line_spec.specs.declared.refusal.Refusal.TheVariants.{Failed, IllegalMcuState, IllegalMemoryRange, IllegalBreakpoint}
use Rattle.line_spec.specs.Messages.{Command, get_sync, sign_off}
use Rattle.line_spec.specs.Messages.{Response, memory, response_body, okay, refused, program_counter, memory_limit, break_at, event_body}
use Rattle.line_spec.specs.Hearing.{request, asks, event_number}
use Rattle.debug_spec.specs.Patch.{without, patch}
use Rattle.debug_spec.specs.Stop.{Cause, by_step, undefined, cause_code}
use Rattle.debug_spec.specs.Run.{End, is_undefined, stepped}
use Rattle.debug_spec.specs.Device.{Device, Tried, synced, launched}
use Rattle.debug_spec.specs.Debugger.{Mode, stopped, launching, running, programming, leaving, closed, Debugger, opened, listens}
use Rattle.debug_spec.specs.Debugger.{replied, told, dropping}
use Rattle.debug_spec.specs.Running.{left_in, left, line_end, prepared_by, launch_in, launch_if_prepared, ended_in, stopped_at, step_of, step_told}
use Rattle.debug_spec.specs.Running.{stepped_by}
use Rattle.debug_spec.specs.Breakpoints.{no_breakpoint}
use Rattle.debug_spec.specs.MemoryTypes.{Memory, bytes_from, byte_in, access_of, memory_size, read_of}
use Rattle.debug_spec.specs.Commands.{allowed, carried_out, answered, heard_by, item_launched}
use Rattle.debug_spec.specs.Replay.{end_now, ended_if, settled_in, settled, steps_for, over}
use Rattle.shell_spec.specs.Generator.{choices, chosen, chosen_behind, next_seed, made_commands, made_program, made_session, made_stops}
use Rattle.shell_spec.specs.Sent.{number_behind, requests_of}
use Rattle.made_session.proofs.Sizes.{length-made}
use Rattle.made_session.proofs.Tallies.{IsSmall}

-- the number of a reply to come fits its bytes
abbrev Waits : Mode → Type 0
Waits stopped = Unit {0}
Waits (launching number) = number < 2 ^ 16
Waits running = Unit {0}
Waits programming = Unit {0}
Waits leaving = Unit {0}
Waits (closed restored) = Unit {0}

-- at most so many frames are sent between two moments
pub record Adds (most : ℕ) (s t : Debugger) : Type 0 where
  pub more : List Frame
  pub sent : t.sent ≡ s.sent ++ more
  pub few : length more ≤ most
  pub small : All IsSmall more
  pub waits : Waits s.mode → Waits t.mode

adds_none : (most : ℕ) (s t : Debugger) → t.sent ≡ s.sent → (Waits s.mode → Waits t.mode) → Adds most s t
adds_none most s t same waits = record {
  more = [];
  sent = same ∙ sym (append-nil s.sent);
  few = omega arith;
  small = All-nil IsSmall;
  waits = waits;
}

adds_one : (most : ℕ) (s t : Debugger) (frame : Frame) → t.sent ≡ s.sent ++ frame ∷ [] → IsSmall frame → (Waits s.mode → Waits t.mode) →
    Adds (suc most) s t
adds_one most s t frame sent small waits = record {
  more = frame ∷ [];
  sent = sent;
  few = omega arith;
  small = All-cons IsSmall frame [] small (All-nil IsSmall);
  waits = waits;
}

adds_both : (m n : ℕ) (s t u : Debugger) → Adds m s t → Adds n t u → Adds (m + n) s u
adds_both m n s t u first later = record {
  more = first.more ++ later.more;
  sent = later.sent ∙ ap (λ (frames : List Frame). frames ++ later.more) first.sent ∙ append_assoc s.sent first.more later.more;
  few = omega (arith, first.few, later.few, length-append first.more later.more);
  small = All-append IsSmall first.more later.more first.small later.small;
  waits = λ before. later.waits (first.waits before);
}

-- a frame is answered, in the mode as it is
adds_reply : (most : ℕ) (s t : Debugger) (number : ℕ) (response : Response) → t.sent ≡ s.sent → (Waits s.mode → Waits t.mode) →
    number < 2 ^ 16 → length (response_body response) < 2 ^ 32 → Adds (suc most) s (replied number response t)
adds_reply most s t number response same waits small few =
    adds_one most s (replied number response t) (record { number = number; body = response_body response })
    (ap (λ (frames : List Frame). frames ++ record { number = number; body = response_body response } ∷ []) same) (small, few) waits

adds_event : (most : ℕ) (s t : Debugger) (cause : Cause) → t.sent ≡ s.sent → (Waits s.mode → Waits t.mode) →
    Adds (suc most) s (told cause t)
adds_event most s t cause same waits =
    let event : Frame = record { number = event_number; body = event_body (break_at t.machine.pc (cause_code cause)) } in
    adds_one most s (told cause t) event (ap (λ (frames : List Frame). frames ++ event ∷ []) same) (omega arith, omega arith) waits

-- the session ends: nothing is sent
left_adds : (part : Chip) (m : Mode) (s : Debugger) → s.mode ≡ m → Adds 0 s (left_in part m s)
left_adds part stopped s is = adds_none 0 s _ refl (λ before. tt)
left_adds part (launching number) s is = adds_none 0 s s refl (λ before. before)
left_adds part running s is = adds_none 0 s _ refl (λ before. tt)
left_adds part programming s is = adds_none 0 s _ refl (λ before. tt)
left_adds part leaving s is = adds_none 0 s s refl (λ before. before)
left_adds part (closed done) s is = adds_none 0 s s refl (λ before. before)

module _ (planted : Bool) (part : Chip) (number : ℕ) (small : number < 2 ^ 16) (s : Debugger) where
  okay_adds : (t : Debugger) → t.sent ≡ s.sent → (Waits s.mode → Waits t.mode) → Adds 2 s (replied number okay t)
  okay_adds t same waits = adds_reply 1 s t number okay same waits small (omega arith)

  told_adds : (t : Debugger) → Adds 1 t (step_told planted part t)
  told_adds t =
      elim (is_undefined (ahead part (step_of planted t).start (step_of planted t).first)) as (λ b. Adds 1 t (elim b [
        | true ↦ told undefined t
        | false ↦ told by_step (record t { machine = stepped part (step_of planted t) })
      ])) [
        | true ↦ adds_event 0 t t undefined refl (λ before. before)
        | false ↦ adds_event 0 t (record t { machine = stepped part (step_of planted t) }) by_step refl (λ before. before)
      ]

  stepped_adds : (tried : Tried) → Adds 2 s (stepped_by planted part number tried s)
  stepped_adds tried =
      let made = record s { device = tried.device } in
      elim tried.ok as (λ b. Adds 2 s (elim b [
        | true ↦ step_told planted part (replied number okay (record s { device = tried.device }))
        | false ↦ replied number (refused Failed) (record s { device = tried.device })
      ])) [
        | true ↦ adds_both 1 1 s (replied number okay made) _ (adds_reply 0 s made number okay refl (λ before. before) small (omega arith))
            (told_adds (replied number okay made))
        | false ↦ adds_reply 1 s made number (refused Failed) refl (λ before. before) small (omega arith)
      ]

  prepared_adds : (tried : Tried) → Adds 2 s (prepared_by number None tried s)
  prepared_adds tried =
      elim tried.ok as (λ b. Adds 2 s (elim b [
        | true ↦ record s { mode = launching number; run_to = None; device = tried.device; stop_asked = false }
        | false ↦ replied number (refused Failed) (record s { device = tried.device; run_to = None })
      ])) [
        | true ↦ adds_none 2 s _ refl (λ before. small)
        | false ↦ adds_reply 1 s _ number (refused Failed) refl (λ before. before) small (omega arith)
      ]

  -- one of two answers
  either_adds : (b : Bool) (t u : Debugger) → Adds 2 s t → Adds 2 s u → Adds 2 s (cond b t u)
  either_adds true t u one other = one
  either_adds false t u one other = other

  none_adds : Adds 2 s (no_breakpoint number s)
  none_adds = adds_reply 1 s s number (refused IllegalBreakpoint) refl (λ before. before) small (omega arith)

  length-bytes_from : (byte_at : ℕ → ℕ) (count address : ℕ) → length (bytes_from byte_at address count) ≡ count
  length-bytes_from byte_at zero address = refl
  length-bytes_from byte_at (suc count) address = ap suc (length-bytes_from byte_at count (suc address))

  read_small : (kind : Option Memory) → length (response_body (read_of part kind 0x10 0x10 s)) < 2 ^ 32
  read_small None = omega arith
  read_small (Some kind) =
      elim (nat_lt memory_limit 0x10 || nat_lt (memory_size part kind) (0x10 + 0x10)) as (λ b. length (response_body (cond b (refused IllegalMemoryRange)
      (memory (bytes_from (byte_in part kind s) 0x10 0x10)))) < 2 ^ 32) [
        | true ↦ omega arith
        | false ↦ omega (arith, length-bytes_from (byte_in part kind s) 0x10 0x10)
      ]

  abbrev Does : Command → Type 0
  Does command = Adds 2 s (carried_out planted part number command s)

  does_at : (address k : ℕ) → Does (slice_index_or (choices address) k get_sync)
  does_at address zero = okay_adds s refl (λ before. before)
  does_at address (suc zero) = stepped_adds (synced part (patch s.prog (without s.machine.pc s.soft)) s.device)
  does_at address (suc (suc zero)) = either_adds _ _ _ (either_adds _ _ _ (okay_adds _ refl (λ before. before)) none_adds) none_adds
  does_at address (suc (suc (suc zero))) = either_adds _ _ _ (okay_adds _ refl (λ before. before)) none_adds
  does_at address (suc (suc (suc (suc zero)))) = prepared_adds _
  does_at address (suc (suc (suc (suc (suc zero))))) = okay_adds _ refl (λ before. before)
  does_at address (suc (suc (suc (suc (suc (suc zero)))))) =
      adds_reply 1 s s number _ refl (λ before. before) small (read_small (access_of s.mode 0x20).read)
  does_at address (suc (suc (suc (suc (suc (suc (suc zero))))))) =
      adds_reply 1 s s number (program_counter s.machine.pc) refl (λ before. before) small (omega arith)
  does_at address (suc (suc (suc (suc (suc (suc (suc (suc k)))))))) = okay_adds s refl (λ before. before)

  does_chosen : (seed : ℕ) → Does (chosen seed)
  does_chosen seed = does_at (seed / 256 % 6) (seed / 2 ^ 24 % 8)

  does_sign_off : Does sign_off
  does_sign_off =
      let answered_so = replied number okay s in
      adds_both 2 0 s answered_so (left part answered_so) (okay_adds s refl (λ before. before)) (left_adds part s.mode answered_so refl)

  launch_adds : (m : Mode) (t : Debugger) → t.mode ≡ m → Waits m → Adds 1 t (launch_in m t)
  launch_adds stopped t is w = adds_none 1 t t refl (λ before. before)
  launch_adds (launching n) t is w =
      elim (launched t.device).ok as (λ b. Adds 1 t (elim b [
        | true ↦ replied n okay (record t { mode = running; device = (launched t.device).device; launches = suc t.launches })
        | false ↦ replied n (refused Failed) (record t { mode = stopped; device = (launched t.device).device; run_to = None })
      ])) [
        | true ↦ adds_reply 0 t _ n okay refl (λ before. tt) w (omega arith)
        | false ↦ adds_reply 0 t _ n (refused Failed) refl (λ before. tt) w (omega arith)
      ]
  launch_adds running t is w = adds_none 1 t t refl (λ before. before)
  launch_adds programming t is w = adds_none 1 t t refl (λ before. before)
  launch_adds leaving t is w = adds_none 1 t t refl (λ before. before)
  launch_adds (closed done) t is w = adds_none 1 t t refl (λ before. before)

  answered_adds : (command : Command) → Does command → Adds 2 s (answered planted part number (asks command) s)
  answered_adds command does =
      elim (allowed s.mode command) as (λ b. Adds 2 s (elim b [
        | true ↦ carried_out planted part number command s
        | false ↦ replied number (refused IllegalMcuState) s
      ])) [
        | true ↦ does
        | false ↦ adds_reply 1 s s number (refused IllegalMcuState) refl (λ before. before) small (omega arith)
      ]

  item_adds : (command : Command) → Does command → Waits s.mode → Adds 3 s (item_launched planted part (request number (asks command)) s)
  item_adds command does w =
      let heard = answered planted part number (asks command) s in
      let first = answered_adds command does in
      elim (listens s.mode) as (λ b. Adds 3 s (elim b [
        | true ↦ launch_if_prepared (heard_by planted part (request number (asks command)) s)
        | false ↦ s
      ])) [
        | true ↦ adds_both 2 1 s heard (launch_if_prepared heard) first (launch_adds heard.mode heard refl (first.waits w))
        | false ↦ adds_none 3 s s refl (λ before. before)
      ]

-- the end of a run is told once, or closes the session
ended_adds : (planted : Bool) (part : Chip) (e : End) (m : Mode) (s : Debugger) → Adds 1 s (ended_in planted part m e s)
ended_adds planted part e stopped s = adds_none 1 s s refl (λ before. before)
ended_adds planted part e (launching number) s = adds_none 1 s s refl (λ before. before)
ended_adds planted part e programming s = adds_none 1 s s refl (λ before. before)
ended_adds planted part e running s =
    adds_event 0 s (record (stopped_at planted part e s) { mode = stopped; run_to = None }) e.cause refl (λ before. tt)
ended_adds planted part e leaving s = adds_none 1 s _ refl (λ before. tt)
ended_adds planted part e (closed done) s = adds_none 1 s s refl (λ before. before)

if_adds : (planted : Bool) (part : Chip) (o : Option End) (s : Debugger) → Adds 1 s (ended_if planted part o s)
if_adds planted part None s = adds_none 1 s s refl (λ before. before)
if_adds planted part (Some e) s = ended_adds planted part e s.mode s

settled_in_adds : (planted : Bool) (part : Chip) (stops : List ℕ) (m : Mode) (s : Debugger) → Adds 1 s (settled_in planted part stops m s)
settled_in_adds planted part stops stopped s = adds_none 1 s s refl (λ before. before)
settled_in_adds planted part stops (launching number) s = adds_none 1 s s refl (λ before. before)
settled_in_adds planted part stops programming s = adds_none 1 s s refl (λ before. before)
settled_in_adds planted part stops running s = if_adds planted part (end_now planted part (steps_for stops s.launches) s) s
settled_in_adds planted part stops leaving s = if_adds planted part (end_now planted part (steps_for stops s.launches) s) s
settled_in_adds planted part stops (closed restored) s = adds_none 1 s s refl (λ before. before)

settled_adds : (planted : Bool) (part : Chip) (stops : List ℕ) (s : Debugger) → Adds 1 s (settled planted part stops s)
settled_adds planted part stops s = settled_in_adds planted part stops s.mode s

-- a command sends few frames, whatever the debugger
abbrev IsQuiet : Bool → Chip → Command → Type 0
IsQuiet planted part command =
    (number : ℕ) (s : Debugger) → number < 2 ^ 16 → Adds 2 s (carried_out planted part number command s)

quiet_behind : (planted : Bool) (part : Chip) (seed count : ℕ) → All (IsQuiet planted part) (chosen_behind seed count)
quiet_behind planted part seed zero = All-nil (IsQuiet planted part)
quiet_behind planted part seed (suc count) =
    let next = next_seed seed in
    All-cons (IsQuiet planted part) (chosen next) (chosen_behind next count)
    (λ number s small. does_chosen planted part number small s next) (quiet_behind planted part next count)

quiet_made : (planted : Bool) (part : Chip) (seed count : ℕ) → All (IsQuiet planted part) (made_commands seed count)
quiet_made planted part seed count =
    All-append (IsQuiet planted part) (chosen_behind seed count) (sign_off ∷ []) (quiet_behind planted part seed count)
    (All-cons (IsQuiet planted part) sign_off [] (λ number s small. does_sign_off planted part number small s)
    (All-nil (IsQuiet planted part)))

over_adds : (planted : Bool) (part : Chip) (stops : List ℕ) (commands : List Command) (made : ℕ) (s : Debugger) →
    All (IsQuiet planted part) commands → Waits s.mode →
    Adds (4 * length commands) s (over planted part stops (requests_of made commands) s)
over_adds planted part stops [] made s all w = adds_none 0 s s refl (λ before. before)
over_adds planted part stops (command ∷ commands) made s all w =
    let number = number_behind made in
    let small : number < 2 ^ 16 = omega arith in
    let quiet : IsQuiet planted part command = all 0 command (omega arith) in
    let heard = item_launched planted part (request number (asks command)) s in
    let first = adds_both 3 1 s heard (settled planted part stops heard) (item_adds planted part number small s command (quiet number s small) w)
    (settled_adds planted part stops heard) in
    let later = over_adds planted part stops commands (suc made) (settled planted part stops heard)
    (λ k d inside. all (suc k) d (omega (arith, inside))) (first.waits w) in
    let both = adds_both 4 (4 * length commands) s (settled planted part stops heard) _ first later in
    record { more = both.more; sent = both.sent; few = omega (arith, both.few); small = both.small; waits = both.waits }

line_end_adds : (part : Chip) (held : List ℕ) (s : Debugger) → Adds 0 s (line_end part held s)
line_end_adds part held s =
    let dropped = dropping (length held) s in
    elim (listens s.mode) as (λ b. Adds 0 s (elim b [ true ↦ left part (dropping (length held) s) | false ↦ s ])) [
      | true ↦ adds_both 0 0 s dropped (left part dropped) (adds_none 0 s dropped refl (λ before. before)) (left_adds part s.mode dropped refl)
      | false ↦ adds_none 0 s s refl (λ before. before)
    ]

-- all that a made session sends
pub record SendsFew (count : ℕ) (frames : List Frame) : Type 0 where
  pub few : length frames ≤ 4 * (count + 1) + 1
  pub small : All IsSmall frames

pub made_sends : (planted : Bool) (part : Chip) (seed count : ℕ) (device : Device) →
    SendsFew count (made_session planted part seed count device).sent
made_sends planted part seed count device =
    let start = opened part (made_program part) device in
    let commands = made_commands seed count in
    let heard = over planted part made_stops (requests_of 0 commands) start in
    let ended = line_end part [] heard in
    let first = over_adds planted part made_stops commands 0 start (quiet_made planted part seed count) tt in
    let later = adds_both 0 1 heard ended (settled planted part made_stops ended) (line_end_adds part [] heard) (settled_adds planted part made_stops ended) in
    let all = adds_both (4 * length commands) 1 start heard (settled planted part made_stops ended) first later in
    record {
      few = omega (arith, all.few, length-made seed count, ap length all.sent);
      small = subst (All IsSmall) (sym all.sent) all.small;
    }
