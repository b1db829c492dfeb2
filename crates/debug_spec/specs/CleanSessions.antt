-- Sessions whose runs are clean, and what the patched debugger and the plain one have in common: all of it, as long as they are.
use Rattle.std.specs.Prelude.{◌≡◌, ◌↔◌, ℕ, ◌+◌, ◌≤◌, ◌&&◌, Bool, true, false, List, [], ◌∷◌, ◌++◌, length, Some}
use Rattle.std.specs.List.{flat_map}
use Rattle.part_spec.specs.Chip.{Chip, words_of, flash_bytes}
use Rattle.avr_spec.specs.Step.{flash_byte}
use Rattle.line_spec.specs.Frames.{Frame, bytes_of}
use Rattle.line_spec.specs.Messages.{Command, sign_off, get_sign_on, set_parameter, get_parameter, write_memory, read_memory, write_pc}
use Rattle.line_spec.specs.Messages.{read_pc, go, single_step, forced_stop, reset, set_device_descriptor, erase_page, get_sync, set_break}
use Rattle.line_spec.specs.Messages.{chip_erase, enter_programming, leave_programming, clear_break, run_to, clear_events, okay, memory}
use Rattle.line_spec.specs.Messages.{memory_limit}
use Rattle.line_spec.specs.Hearing.{asks, unknown_code, wrong_length, Heard, request, dropped}
use Rattle.debug_spec.specs.Patch.{without, patch}
use Rattle.debug_spec.specs.Run.{End}
use Rattle.debug_spec.specs.Clean.{clean_step, clean_for, clean_run}
use Rattle.debug_spec.specs.Device.{Device, synced}
use Rattle.debug_spec.specs.Debugger.{Mode, stopped, launching, running, programming, leaving, closed, Debugger, opened, is_out, run_out}
use Rattle.debug_spec.specs.Debugger.{replied}
use Rattle.debug_spec.specs.Running.{line_end, replant_failed, run_ended, MayEnd}
use Rattle.debug_spec.specs.MemoryTypes.{program, bytes_from, read_of}
use Rattle.debug_spec.specs.Commands.{item, item_launched}
use Rattle.debug_spec.specs.Replay.{steps_for, settled, over_all, bytes_sent}
use Rattle.debug_spec.specs.SessionLaws.{IsFit, IsSound, Grows}

-- the target is stopped
abbrev pub is_stopped : Mode → Bool
is_stopped stopped = true
is_stopped (launching number) = false
is_stopped running = false
is_stopped programming = false
is_stopped leaving = false
is_stopped (closed restored) = false

-- a single step would be made
abbrev pub steps_now : Chip → Debugger → Bool
steps_now part s = is_stopped s.mode && (synced part (patch s.prog (without s.machine.pc s.soft)) s.device).ok

-- where it is made, a single step of the program is clean
abbrev pub clean_single : Chip → Debugger → Bool
clean_single part s = elim (steps_now part s) [ true ↦ clean_step part s.machine s.prog (without s.machine.pc s.soft) | false ↦ true ]

-- what a command runs at once is clean
abbrev pub clean_command : Chip → Command → Debugger → Bool
clean_command part sign_off s = true
clean_command part get_sign_on s = true
clean_command part (set_parameter id value) s = true
clean_command part (get_parameter id) s = true
clean_command part (write_memory kind address bytes) s = true
clean_command part (read_memory kind count address) s = true
clean_command part (write_pc address) s = true
clean_command part read_pc s = true
clean_command part go s = true
clean_command part single_step s = clean_single part s
clean_command part forced_stop s = true
clean_command part reset s = true
clean_command part (set_device_descriptor bytes) s = true
clean_command part (erase_page address) s = true
clean_command part get_sync s = true
clean_command part (set_break kind number address) s = true
clean_command part chip_erase s = true
clean_command part enter_programming s = true
clean_command part leave_programming s = true
clean_command part (clear_break number address) s = true
clean_command part (run_to address) s = true
clean_command part clear_events s = true

-- what an item of the line runs at once is clean
abbrev pub clean_heard : Chip → Heard → Debugger → Bool
clean_heard part (request number (asks command)) s = clean_command part command s
clean_heard part (request number unknown_code) s = true
clean_heard part (request number wrong_length) s = true
clean_heard part (dropped count) s = true

-- where one is out, the run of the program is clean to its end, or for so many steps
abbrev pub clean_out : Chip → List ℕ → Debugger → Bool
clean_out part stops s = elim (is_out s.mode) [
  | true ↦ clean_run part (run_out false s) (replant_failed s) (steps_for stops s.launches)
  | false ↦ true
]

-- all runs of a plain session are clean
abbrev pub clean_session : Chip → List ℕ → List Heard → List ℕ → Debugger → Bool
clean_session part stops [] held s = clean_out part stops (line_end part held s)
clean_session part stops (heard ∷ more) held s =
    clean_heard part heard s && (clean_out part stops (item_launched false part heard s) &&
    clean_session part stops more held (settled false part stops (item_launched false part heard s)))

-- the frames sent once an item's first reply is
abbrev pub started : Heard → Debugger → List Frame
started (request number asked) s = (replied number okay s).sent
started (dropped count) s = s.sent

-- the frames that a plain session sends up to and with the reply that starts the first run that is not clean
abbrev pub clean_frames : Chip → List ℕ → List Heard → List ℕ → Debugger → List Frame
clean_frames part stops [] held s = let t = line_end part held s in
    elim (clean_out part stops t) [ true ↦ (settled false part stops t).sent | false ↦ t.sent ]
clean_frames part stops (heard ∷ more) held s = let t = item_launched false part heard s in
    elim (clean_heard part heard s) [
      | true ↦ elim (clean_out part stops t) [ true ↦ clean_frames part stops more held (settled false part stops t) | false ↦ t.sent ]
      | false ↦ started heard s
    ]

-- an item of the line, and an end of a run, are the same for both debuggers where what runs with them is clean
pub record EventsAlike (part : Chip) (s : Debugger) : Type 0 where
  pub item : (heard : Heard) → clean_heard part heard s ≡ true → item true part heard s ≡ item false part heard s
  pub item_launched : (heard : Heard) → clean_heard part heard s ≡ true → item_launched true part heard s ≡ item_launched false part heard s
  pub may_end : (e : End) → clean_for part (run_out false s) e.steps ≡ true → MayEnd true part s e ↔ MayEnd false part s e
  pub ended : (e : End) → clean_for part (run_out false s) e.steps ≡ true → MayEnd false part s e →
      run_ended true part e s ≡ run_ended false part e s

-- they are so at every moment
abbrev pub CleanEventsAlike : Type 0
CleanEventsAlike = (part : Chip) (s : Debugger) → IsSound part s → EventsAlike part s

-- where all runs of a replay are clean, the two debuggers come to the same end: the same bytes, target, totals, device
abbrev pub CleanReplaysAlike : Type 0
CleanReplaysAlike = (part : Chip) (stops prog : List ℕ) (device : Device) (heard : List Heard) (held : List ℕ) →
    length prog ≡ words_of part → IsFit part device → clean_session part stops heard held (opened part prog device) ≡ true →
    over_all true part stops heard held (opened part prog device) ≡ over_all false part stops heard held (opened part prog device)

-- frames are the first that a session sends, and their bytes the first bytes
pub record SendsFirst (frames : List Frame) (end : Debugger) : Type 0 where
  pub frames_first : Grows frames end.sent
  pub bytes_first : (more : List ℕ) × (bytes_sent end ≡ flat_map bytes_of frames ++ more)

-- in every replay they send the same up to and with the reply that starts the first run that is not clean
abbrev pub ReplaysAlikeAtFirst : Type 0
ReplaysAlikeAtFirst = (part : Chip) (stops prog : List ℕ) (device : Device) (heard : List Heard) (held : List ℕ) →
    length prog ≡ words_of part → IsFit part device →
    let frames = clean_frames part stops heard held (opened part prog device) in
    SendsFirst frames (over_all true part stops heard held (opened part prog device)) ×
    SendsFirst frames (over_all false part stops heard held (opened part prog device))

-- a read of the program's memory gives bytes of the program, whatever is planted in the device
abbrev pub ReadsShowProgram : Type 0
ReadsShowProgram = (part : Chip) (count address : ℕ) (s : Debugger) → count ≤ memory_limit → address + count ≤ flash_bytes part →
    read_of part (Some program) count address s ≡ memory (bytes_from (flash_byte s.prog) address count)
