-- A session drops no more bytes than it was given.
use Rattle.std.proofs.Common.{◌≡◌, ℕ, zero, suc, ◌+◌, ◌≤◌, Bool, true, false, if◌then◌else◌, List, [], ◌∷◌, Option, Some, None}
use Rattle.std.proofs.Common.{length, Result, Ok, Err, refl, ap, arith, length-append}
use Rattle.part_spec.specs.Chip.{Chip}
use Rattle.line_spec.specs.declared.refusal.Refusal.{Refusal}
use Rattle.line_spec.specs.Parameters.{Parameter, parameter_written}
use Rattle.line_spec.specs.Cut.{Item, whole, junk, Cuts}
use Rattle.line_spec.specs.Messages.{Command, sign_off, get_sign_on, set_parameter, get_parameter, write_memory, read_memory, write_pc}
use Rattle.line_spec.specs.Messages.{read_pc, go, single_step, forced_stop, reset, set_device_descriptor, erase_page, get_sync, set_break}
use Rattle.line_spec.specs.Messages.{chip_erase, enter_programming, leave_programming, clear_break, run_to, clear_events}
use Rattle.line_spec.specs.Hearing.{Request, asks, unknown_code, wrong_length, Heard, request, dropped, HearsAll}
use Rattle.line_spec.proofs.FrameBytes.{length-bytes_of}
use Rattle.line_spec.proofs.Cuts.{Begins-length}
use Rattle.avr_spec.specs.Step.{ahead}
use Rattle.debug_spec.specs.Patch.{without, patch}
use Rattle.debug_spec.specs.Stop.{by_step, undefined}
use Rattle.debug_spec.specs.Run.{End, stepped, is_undefined}
use Rattle.debug_spec.specs.Device.{synced, Device}
use Rattle.debug_spec.specs.Debugger.{Mode, stopped, launching, running, programming, leaving, closed, Debugger, listens, opened, told}
use Rattle.debug_spec.specs.Running.{left_in, left, line_end, launch_in, launch_if_prepared, ended_in}
use Rattle.debug_spec.specs.Running.{step_of, step_told, stepped_by}
use Rattle.debug_spec.specs.Breakpoints.{set_numbered, break_cleared}
use Rattle.debug_spec.specs.MemoryTypes.{Memory, data_space, io_space, program, fuses, lock_bits, signature, access_of, written_to, write_of}
use Rattle.debug_spec.specs.Commands.{allowed, parameter_set, carried_out, answered, heard_by, item_launched}
use Rattle.shell_spec.specs.Sent.{requests_of}
use Rattle.debug_spec.specs.Replay.{ended_if, end_now, steps_for, settled_in, settled, over, over_all, IsReplay, IsReplayCutShort}

-- one of two
abbrev chosen : Bool → Debugger → Debugger → Debugger
chosen b x y = elim b [ true ↦ x | false ↦ y ]

either : (b : Bool) (n : ℕ) (x y : Debugger) → x.dropped ≡ n → y.dropped ≡ n → (chosen b x y).dropped ≡ n
either true n x y h k = h
either false n x y h k = k

one_of : (b : Bool) (n : ℕ) (x y : Debugger) → x.dropped ≡ n → y.dropped ≡ n → (if b then x else y).dropped ≡ n
one_of true n x y h k = h
one_of false n x y h k = k

left_keeps : (part : Chip) (m : Mode) (s : Debugger) → (left_in part m s).dropped ≡ s.dropped
left_keeps part stopped s = refl
left_keeps part (launching number) s = refl
left_keeps part running s = refl
left_keeps part programming s = refl
left_keeps part leaving s = refl
left_keeps part (closed done) s = refl

launch_keeps : (m : Mode) (s : Debugger) → (launch_in m s).dropped ≡ s.dropped
launch_keeps stopped s = refl
launch_keeps (launching number) s = either _ s.dropped _ _ refl refl
launch_keeps running s = refl
launch_keeps programming s = refl
launch_keeps leaving s = refl
launch_keeps (closed done) s = refl

parameter_keeps : (frame : ℕ) (r : Result (List Parameter) Refusal) (s : Debugger) → (parameter_set frame r s).dropped ≡ s.dropped
parameter_keeps frame (Ok parameters) s = refl
parameter_keeps frame (Err refusal) s = refl

write_keeps : (part : Chip) (o : Option Memory) (frame address : ℕ) (bytes : List ℕ) (s : Debugger) →
    (write_of part o frame address bytes s).dropped ≡ s.dropped
write_keeps part None frame address bytes s = refl
write_keeps part (Some kind) frame address bytes s = one_of _ s.dropped _ _ refl (written kind)
  where
    written : (kind : Memory) → (written_to part kind frame address bytes s).dropped ≡ s.dropped
    written data_space = refl
    written io_space = refl
    written program = refl
    written fuses = refl
    written lock_bits = refl
    written signature = refl

set_keeps : (part : Chip) (frame number address : ℕ) (s : Debugger) → (set_numbered part frame number address s).dropped ≡ s.dropped
set_keeps part frame zero address s = one_of _ s.dropped _ _ refl refl
set_keeps part frame (suc number) address s = refl

clear_keeps : (frame number address : ℕ) (s : Debugger) → (break_cleared frame number address s).dropped ≡ s.dropped
clear_keeps frame zero address s = one_of _ s.dropped _ _ refl refl
clear_keeps frame (suc number) address s = one_of _ s.dropped _ _ refl refl

module _ (planted : Bool) (part : Chip) where
  told_keeps : (s : Debugger) → (step_told planted part s).dropped ≡ s.dropped
  told_keeps s =
      let r = step_of planted s in
      either (is_undefined (ahead part r.start r.first)) s.dropped (told undefined s)
      (told by_step (record s { machine = stepped part r })) refl refl

  step_by : (ok : Bool) (frame : ℕ) (d : Device) (s : Debugger) →
      (stepped_by planted part frame (record { ok = ok; device = d }) s).dropped ≡ s.dropped
  step_by true frame d s = told_keeps _
  step_by false frame d s = refl

  carried_keeps : (frame : ℕ) (command : Command) (s : Debugger) → (carried_out planted part frame command s).dropped ≡ s.dropped
  carried_keeps frame sign_off s = left_keeps part s.mode _
  carried_keeps frame get_sign_on s = refl
  carried_keeps frame (set_parameter id value) s = parameter_keeps frame (parameter_written s.parameters id value) s
  carried_keeps frame (get_parameter id) s = refl
  carried_keeps frame (write_memory kind address bytes) s = write_keeps part (access_of s.mode kind).written frame address bytes s
  carried_keeps frame (read_memory kind count address) s = refl
  carried_keeps frame (write_pc address) s = one_of _ s.dropped _ _ refl refl
  carried_keeps frame read_pc s = refl
  carried_keeps frame go s = either _ s.dropped _ _ refl refl
  carried_keeps frame single_step s =
      step_by (synced part (patch s.prog (without s.machine.pc s.soft)) s.device).ok frame
      (synced part (patch s.prog (without s.machine.pc s.soft)) s.device).device s
  carried_keeps frame forced_stop s = refl
  carried_keeps frame reset s = refl
  carried_keeps frame (set_device_descriptor bytes) s = refl
  carried_keeps frame (erase_page address) s = one_of _ s.dropped _ _ refl refl
  carried_keeps frame get_sync s = refl
  carried_keeps frame (set_break kind number address) s = one_of _ s.dropped _ _ (set_keeps part frame number address s) refl
  carried_keeps frame chip_erase s = refl
  carried_keeps frame enter_programming s = either _ s.dropped _ _ refl refl
  carried_keeps frame leave_programming s = refl
  carried_keeps frame (clear_break number address) s = clear_keeps frame number address s
  carried_keeps frame (run_to address) s = one_of _ s.dropped _ _ (either _ s.dropped _ _ refl refl) refl
  carried_keeps frame clear_events s = refl

  answer_keeps : (frame : ℕ) (asked : Request) (s : Debugger) → (answered planted part frame asked s).dropped ≡ s.dropped
  answer_keeps frame unknown_code s = refl
  answer_keeps frame wrong_length s = refl
  answer_keeps frame (asks command) s = either (allowed s.mode command) s.dropped _ _ (carried_keeps frame command s) refl

  end_keeps : (m : Mode) (e : End) (s : Debugger) → (ended_in planted part m e s).dropped ≡ s.dropped
  end_keeps stopped e s = refl
  end_keeps (launching number) e s = refl
  end_keeps programming e s = refl
  end_keeps running e s = refl
  end_keeps leaving e s = refl
  end_keeps (closed done) e s = refl

  ended_keeps : (o : Option End) (s : Debugger) → (ended_if planted part o s).dropped ≡ s.dropped
  ended_keeps None s = refl
  ended_keeps (Some e) s = end_keeps s.mode e s

-- the bytes that an item drops, and those of items
weight : Heard → ℕ
weight (request number asked) = 0
weight (dropped count) = count

weights : List Heard → ℕ
weights [] = 0
weights (heard ∷ more) = weight heard + weights more

module _ (planted : Bool) (part : Chip) (stops : List ℕ) where
  settled_keeps : (m : Mode) (s : Debugger) → (settled_in planted part stops m s).dropped ≡ s.dropped
  settled_keeps stopped s = refl
  settled_keeps (launching number) s = refl
  settled_keeps programming s = refl
  settled_keeps running s = ended_keeps planted part (end_now planted part (steps_for stops s.launches) s) s
  settled_keeps leaving s = ended_keeps planted part (end_now planted part (steps_for stops s.launches) s) s
  settled_keeps (closed done) s = refl

  heard_drops : (heard : Heard) (s : Debugger) → (heard_by planted part heard s).dropped ≡ s.dropped + weight heard
  unfolding weight
  heard_drops (request number asked) s = omega (arith, answer_keeps planted part number asked s)
  heard_drops (dropped count) s = refl

  item_drops : (b : Bool) (heard : Heard) (s : Debugger) →
      (chosen b (launch_if_prepared (heard_by planted part heard s)) s).dropped ≤ s.dropped + weight heard
  item_drops true heard s =
      omega (arith, launch_keeps (heard_by planted part heard s).mode (heard_by planted part heard s), heard_drops heard s)
  item_drops false heard s = omega arith

  over_drops : (heard : List Heard) (s : Debugger) → (over planted part stops heard s).dropped ≤ s.dropped + weights heard
  unfolding weights
  over_drops [] s = omega arith
  over_drops (heard ∷ more) s =
      let t = item_launched planted part heard s in
      omega (arith, item_drops (listens s.mode) heard s, settled_keeps t.mode t, over_drops more (settled planted part stops t))

  end_drops : (b : Bool) (held : List ℕ) (s : Debugger) →
      (chosen b (left part (record s { dropped = s.dropped + length held })) s).dropped ≤ s.dropped + length held
  end_drops true held s = omega (arith, left_keeps part s.mode (record s { dropped = s.dropped + length held }))
  end_drops false held s = omega arith

  all_drop : (heard : List Heard) (held : List ℕ) (s : Debugger) →
      (over_all planted part stops heard held s).dropped ≤ s.dropped + weights heard + length held
  all_drop heard held s =
      let t = over planted part stops heard s in
      let u = line_end part held t in
      omega (arith, over_drops heard s, end_drops (listens t.mode) held t, settled_keeps u.mode u)

-- what items drop and what is behind them are no more than all bytes
weights-within : (x y : List ℕ) (items : List Item) (heard : List Heard) → Cuts x items y → HearsAll items heard →
    weights heard + length y ≤ length x
unfolding weights weight
weights-within x y [] [] c h = omega (arith, ap length c)
weights-within x y [] (one ∷ heard) c h = absurd h
weights-within x y (item ∷ items) [] c h = absurd h
weights-within x y (junk byte ∷ items) (one ∷ heard) c h =
    omega (arith, weights-within c.0 y items heard c.3 h.1, ap length c.1, ap weight h.0)
weights-within x y (whole frame ∷ items) (request number asked ∷ heard) c h =
    omega (arith, weights-within c.0 y items heard c.2 h.1, Begins-length x c.0 frame c.1)
weights-within x y (whole frame ∷ items) (dropped count ∷ heard) c h =
    omega (arith, weights-within c.0 y items heard c.2 h.1, Begins-length x c.0 frame c.1, h.0.1, length-bytes_of frame)

-- a replay, whole or cut short, drops no more than its bytes
pub replay_drops : (part : Chip) (stops prog : List ℕ) (device : Device) (bytes : List ℕ) (end : Debugger) →
    IsReplay true part stops prog device bytes end → end.dropped ≤ length bytes
replay_drops part stops prog device bytes end r =
    omega (
      arith,
      ap (λ (s : Debugger). s.dropped) r.is_end,
      all_drop true part stops r.heard r.rest (opened part prog device),
      weights-within bytes r.rest r.items r.heard r.cut.cuts r.hears,
    )

pub cut_drops : (part : Chip) (stops prog : List ℕ) (device : Device) (bytes : List ℕ) (items : List Item) (end : Debugger) →
    IsReplayCutShort true part stops prog device bytes items end → end.dropped ≤ length bytes
cut_drops part stops prog device bytes items end r =
    omega (
      arith,
      ap (λ (s : Debugger). s.dropped) r.is_end,
      all_drop true part stops r.heard r.held (opened part prog device),
      weights-within r.taken r.held items r.heard r.cuts r.hears,
      ap length r.split,
      length-append r.taken r.left,
    )

-- requests alone drop nothing
requests-weigh-none : (count : ℕ) (commands : List Command) → weights (requests_of count commands) ≡ 0
unfolding weights weight
requests-weigh-none count [] = refl
requests-weigh-none count (command ∷ commands) = omega (arith, requests-weigh-none (suc count) commands)

pub requests_drop_none : (part : Chip) (stops prog : List ℕ) (device : Device) (count : ℕ) (commands : List Command) →
    (over_all true part stops (requests_of count commands) [] (opened part prog device)).dropped ≡ 0
requests_drop_none part stops prog device count commands =
    omega (
      arith,
      all_drop true part stops (requests_of count commands) [] (opened part prog device),
      requests-weigh-none count commands,
    )
