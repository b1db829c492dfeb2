-- What holds at each point that lines reach: no run waits for its launch, and one with which the session ends was asked to stop.
use Rattle.std.proofs.Common.{◌≡◌, ◌⊎◌, inl, inr, ℕ, zero, suc, ◌+◌, ◌/◌, ◌&&◌, ◌||◌, not, Bool, true, false, List, [], ◌∷◌, length}
use Rattle.std.proofs.Common.{Option, Some, None, Result, Ok, Err, refl, sym, subst}
use Rattle.std.specs.Prelude.{◌==◌, nat_lt, nat_le, slice_get, slice_set}
use Rattle.part_spec.specs.Chip.{Chip, words_of, flash_bytes, page_bytes}
use Rattle.avr_spec.specs.Effect.{with_pc}
use Rattle.line_spec.specs.declared.refusal.Refusal.{Refusal}
use Rattle.line_spec.specs.declared.refusal.Refusal.TheVariants.{Failed, IllegalMemoryRange, IllegalMcuState}
use Rattle.line_spec.specs.Messages.{Command, sign_off, get_sign_on, set_parameter, get_parameter, write_memory, read_memory, write_pc}
use Rattle.line_spec.specs.Messages.{read_pc, go, single_step, forced_stop, reset, set_device_descriptor, erase_page, get_sync, set_break}
use Rattle.line_spec.specs.Messages.{chip_erase, enter_programming, leave_programming, clear_break, run_to, clear_events, okay, refused}
use Rattle.line_spec.specs.Hearing.{Request, asks, unknown_code, wrong_length, Heard, request, dropped}
use Rattle.line_spec.specs.Parameters.{Parameter, parameter_written}
use Rattle.debug_spec.specs.Patch.{has, without, plantable}
use Rattle.debug_spec.specs.Run.{End}
use Rattle.debug_spec.specs.Device.{Tried, synced, launched}
use Rattle.debug_spec.specs.Debugger.{Mode, stopped, launching, running, programming, leaving, closed, Debugger, comparator_count, listens}
use Rattle.debug_spec.specs.Debugger.{replied, dropping}
use Rattle.debug_spec.specs.Running.{left, prepared, line_end, launch_if_prepared, run_ended}
use Rattle.debug_spec.specs.Programming.{erased_page}
use Rattle.debug_spec.specs.Breakpoints.{program_break, inserted, may_set, no_breakpoint, set_numbered, is_set, break_cleared}
use Rattle.debug_spec.specs.MemoryTypes.{Memory, data_space, io_space, program, fuses, lock_bits, signature, access_of, memory_size}
use Rattle.debug_spec.specs.MemoryTypes.{programming_told, written_to, in_whole_units, write_of}
use Rattle.debug_spec.specs.Commands.{allowed, parameter_set, entered_by, carried_out, answered, heard_by, item}
use Rattle.debug_spec.specs.Schedule.{Session}
use Rattle.debug_spec.specs.Take.{goes_on, Leaves, TakesFrame, TakesNone, launched_then}
use Rattle.debug_spec.proofs.Soundness.{at}
use Rattle.debug_spec.proofs.Sessions.{EitherBy}
use Rattle.debug_spec.proofs.TakeLemmas.{launch_told}
use Rattle.record_spec.specs.Lines.{Event, comes, waits, line_ends, halts, Line, event, out}
use Rattle.record_spec.specs.Fits.{Point, Happens, Follows, Reaches}
use Rattle.record_spec.proofs.Asking.{IsAsked, Rests, AskedOf, RestsOf, asked-if, asked-by, asked-asks, asked-left, asked-prepared, asked-single}

asked-rests : (m : Mode) (asked : Bool) → Rests m asked → IsAsked m asked
asked-rests leaving asked h = h
asked-rests stopped asked h = tt
asked-rests (launching number) asked h = tt
asked-rests running asked h = tt
asked-rests programming asked h = tt
asked-rests (closed restored) asked h = tt

module _ (planted : Bool) (part : Chip) (frame : ℕ) where
  asked-entered : (tried : Tried) (s : Debugger) → AskedOf s → AskedOf (entered_by frame tried s)
  asked-entered tried s h =
      asked-by tried.ok (replied frame okay (record s { mode = programming; soft = []; device = tried.device }))
      (replied frame (refused Failed) (record s { device = tried.device })) tt h

  asked-set : (number address : ℕ) (s : Debugger) → AskedOf s → AskedOf (set_numbered part frame number address s)
  asked-set zero address s h =
      asked-if (may_set part s address) (replied frame okay (record s { soft = inserted address s.soft })) (no_breakpoint frame s) h h
  asked-set (suc number) address s h = h

  asked-cleared : (number address : ℕ) (s : Debugger) → AskedOf s → AskedOf (break_cleared frame number address s)
  asked-cleared zero address s h =
      asked-if (has s.soft address) (replied frame okay (record s { soft = without address s.soft })) (no_breakpoint frame s) h h
  asked-cleared (suc number) address s h =
      asked-if (is_set (slice_get s.comparators number))
      (replied frame okay (record s { comparators = slice_set s.comparators number None })) (no_breakpoint frame s) h h

  asked-parameter : (result : Result (List Parameter) Refusal) (s : Debugger) → AskedOf s → AskedOf (parameter_set frame result s)
  asked-parameter (Ok parameters) s h = h
  asked-parameter (Err refusal) s h = h

  asked-written : (kind : Memory) (address : ℕ) (bytes : List ℕ) (s : Debugger) → AskedOf s →
      AskedOf (written_to part kind frame address bytes s)
  asked-written data_space address bytes s h = h
  asked-written io_space address bytes s h = h
  asked-written program address bytes s h = h
  asked-written fuses address bytes s h = h
  asked-written lock_bits address bytes s h = h
  asked-written signature address bytes s h = h

  asked-write : (kind : Option Memory) (address : ℕ) (bytes : List ℕ) (s : Debugger) → AskedOf s →
      AskedOf (write_of part kind frame address bytes s)
  asked-write None address bytes s h = h
  asked-write (Some kind) address bytes s h =
      asked-if (nat_lt (memory_size part kind) (address + length bytes) || not (in_whole_units kind address (length bytes)))
      (replied frame (refused IllegalMemoryRange) s) (written_to part kind frame address bytes s) h (asked-written kind address bytes s h)

  asked-carried : (command : Command) (s : Debugger) → AskedOf s → AskedOf (carried_out planted part frame command s)
  asked-carried sign_off s h = asked-left planted part frame s.mode (replied frame okay s) h
  asked-carried get_sign_on s h = h
  asked-carried (set_parameter id value) s h = asked-parameter (parameter_written s.parameters id value) s h
  asked-carried (get_parameter id) s h = h
  asked-carried (write_memory kind address bytes) s h = asked-write (access_of s.mode kind).written address bytes s h
  asked-carried (read_memory kind count address) s h = h
  asked-carried (write_pc address) s h =
      asked-if (nat_lt address (words_of part)) (replied frame okay (record s { machine = with_pc address s.machine }))
      (replied frame (refused IllegalMemoryRange) s) h h
  asked-carried read_pc s h = h
  asked-carried go s h = asked-prepared planted part frame None s h
  asked-carried single_step s h = asked-single planted part frame s h
  asked-carried forced_stop s h = asked-asks s.mode
  asked-carried reset s h = h
  asked-carried (set_device_descriptor bytes) s h = h
  asked-carried (erase_page address) s h =
      asked-if (nat_lt address (flash_bytes part))
      (programming_told frame (erased_page part (address / page_bytes) s.prog s.device) s)
      (replied frame (refused IllegalMemoryRange) s) h h
  asked-carried get_sync s h = h
  asked-carried (set_break kind number address) s h =
      asked-if ((kind == program_break) && nat_le number comparator_count && nat_lt address (words_of part))
      (set_numbered part frame number address s) (no_breakpoint frame s) (asked-set number address s h) h
  asked-carried chip_erase s h = h
  asked-carried enter_programming s h = asked-entered (synced part s.prog s.device) s h
  asked-carried leave_programming s h = tt
  asked-carried (clear_break number address) s h = asked-cleared number address s h
  asked-carried (run_to address) s h =
      asked-if (plantable part s.prog address) (prepared part frame (Some address) s) (no_breakpoint frame s)
      (asked-prepared planted part frame (Some address) s h) h
  asked-carried clear_events s h = h

  asked-answered : (asked : Request) (s : Debugger) → AskedOf s → AskedOf (answered planted part frame asked s)
  asked-answered unknown_code s h = h
  asked-answered wrong_length s h = h
  asked-answered (asks command) s h =
      asked-by (allowed s.mode command) (carried_out planted part frame command s) (replied frame (refused IllegalMcuState) s)
      (asked-carried command s h) h

module _ (planted : Bool) (part : Chip) where
  asked-heard : (heard : Heard) (s : Debugger) → AskedOf s → AskedOf (heard_by planted part heard s)
  asked-heard (request number asked) s h = asked-answered planted part number asked s h
  asked-heard (dropped count) s h = h

  asked-item : (heard : Heard) (s : Debugger) → AskedOf s → AskedOf (item planted part heard s)
  asked-item heard s h = asked-by (listens s.mode) (heard_by planted part heard s) s (asked-heard heard s h) h

  asked-behind : (b : Bool) (behind : List ℕ) (s : Debugger) (after : Session) → Leaves b behind s after → AskedOf s → AskedOf after.state
  asked-behind true behind s after leaves h = subst AskedOf (sym leaves.3) h
  asked-behind false behind s after leaves h = subst (λ (x : Session). AskedOf x.state) (sym leaves) h

  asked-frame : (used : List ℕ) (before after : Session) → TakesFrame planted part used before after → AskedOf before.state →
      AskedOf after.state
  asked-frame used before after t h =
      let s = item planted part t.heard (dropping (length t.ahead) before.state) in
      asked-behind (goes_on s.mode) t.behind s after t.leaves (asked-item t.heard (dropping (length t.ahead) before.state) h)

  asked-take : (b : Bool) (used left : List ℕ) (before after : Session) →
      EitherBy b (TakesFrame planted part used before after ⊎ TakesNone used left before after) ((left ≡ []) × (after ≡ before)) →
      AskedOf before.state → AskedOf after.state
  asked-take true used left before after (inl t) h = asked-frame used before after t h
  asked-take true used left before after (inr t) h = subst AskedOf (sym t.state) h
  asked-take false used left before after t h = subst (λ (x : Session). AskedOf x.state) (sym t.1) h

-- a launch that is asked for is answered
rests-launched : (m : Mode) (s : Debugger) → AskedOf (at m s) → RestsOf (launch_if_prepared (at m s))
rests-launched stopped s h = tt
rests-launched (launching number) s h = by_ok (launched s.device).ok
  where
    by_ok : (b : Bool) → RestsOf (launch_told b number (at (launching number) s))
    by_ok true = tt
    by_ok false = tt
rests-launched running s h = tt
rests-launched programming s h = tt
rests-launched leaving s h = h
rests-launched (closed restored) s h = tt

module _ (part : Chip) where
  rests-line_end : (held : List ℕ) (m : Mode) (s : Debugger) → RestsOf (at m s) → RestsOf (line_end part held (at m s))
  rests-line_end held stopped s h = tt
  rests-line_end held (launching number) s h = h
  rests-line_end held running s h = refl
  rests-line_end held programming s h = tt
  rests-line_end held leaving s h = h
  rests-line_end held (closed restored) s h = tt

  rests-ended : (end : End) (m : Mode) (s : Debugger) → RestsOf (at m s) → RestsOf (run_ended false part end (at m s))
  rests-ended end stopped s h = tt
  rests-ended end (launching number) s h = h
  rests-ended end running s h = tt
  rests-ended end programming s h = tt
  rests-ended end leaving s h = tt
  rests-ended end (closed restored) s h = tt

  rests-taken : (taken after : Session) → after ≡ launched_then taken → AskedOf taken.state → RestsOf after.state
  rests-taken taken after e h = subst (λ (x : Session). RestsOf x.state) (sym e) (rests-launched taken.state.mode taken.state h)

  rests-event : (what : Event) (before after : Session) → Happens part what before after → RestsOf before.state → RestsOf after.state
  rests-event (comes bytes) before after h rests =
      rests-taken h.1 after h.3 (asked-take false part (listens before.state.mode) bytes [] before h.1 h.2
      (asked-rests before.state.mode before.state.stop_asked rests))
  rests-event waits before after h rests =
      rests-taken h.1 after h.3 (asked-frame false part [] before h.1 h.2
      (asked-rests before.state.mode before.state.stop_asked rests))
  rests-event line_ends before after h rests =
      subst (λ (x : Session). RestsOf x.state) (sym h.1) (rests-line_end before.held before.state.mode before.state rests)
  rests-event (halts end) before after h rests =
      subst (λ (x : Session). RestsOf x.state) (sym h.1) (rests-ended end before.state.mode before.state rests)

  rests-line : (line : Line) (before after : Point) → Follows part line before after → RestsOf before.session.state →
      RestsOf after.session.state
  rests-line (event what) before after h rests =
      subst (λ (x : Point). RestsOf x.session.state) (sym h.4) (rests-event what before.session h.2 h.3.happens rests)
  rests-line (out bytes) before after h rests = subst (λ (x : Point). RestsOf x.session.state) (sym h.1) rests

  pub rests-reached : (lines : List Line) (before after : Point) → Reaches part lines before after → RestsOf before.session.state →
      RestsOf after.session.state
  rests-reached [] before after h rests = subst (λ (x : Point). RestsOf x.session.state) (sym h) rests
  rests-reached (line ∷ lines) before after h rests =
      rests-reached lines h.0 after h.2 (rests-line line before h.0 h.1 rests)
