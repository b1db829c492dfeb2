-- What the debugger answers: a code that is not known is refused first, then a wrong length, then a command that the mode does not
-- allow, and then what the command itself refuses, in order.
use Rattle.std.specs.Prelude.{ℕ, ◌/◌, Bool, true, false, nat_lt, if◌then◌else◌, List, [], Some, None, Result, Ok, Err}
use Rattle.part_spec.specs.Chip.{Chip, words_of, flash_bytes, page_bytes}
use Rattle.avr_spec.specs.Machine.{restarted}
use Rattle.avr_spec.specs.Effect.{with_pc}
use Rattle.line_spec.specs.declared.refusal.Refusal.{Refusal}
use Rattle.line_spec.specs.declared.refusal.Refusal.TheVariants.{Failed, IllegalMemoryRange, IllegalMcuState, IllegalValue, IllegalCommand}
use Rattle.line_spec.specs.Messages.{Command, sign_off, get_sign_on, set_parameter, get_parameter, write_memory, read_memory, write_pc}
use Rattle.line_spec.specs.Messages.{read_pc, go, single_step, forced_stop, reset, set_device_descriptor, erase_page, get_sync, set_break}
use Rattle.line_spec.specs.Messages.{chip_erase, enter_programming, leave_programming, clear_break, run_to, clear_events, Response, okay}
use Rattle.line_spec.specs.Messages.{parameter, program_counter, signed_on, refused, own_head, own_name}
use Rattle.line_spec.specs.Hearing.{Request, asks, unknown_code, wrong_length, Heard, request, dropped}
use Rattle.line_spec.specs.Parameters.{Parameter, parameter_read, parameter_written}
use Rattle.debug_spec.specs.Patch.{plantable}
use Rattle.debug_spec.specs.Stop.{by_reset}
use Rattle.debug_spec.specs.Device.{Tried, synced}
use Rattle.debug_spec.specs.Programming.{erased_all, erased_page}
use Rattle.debug_spec.specs.Debugger.{Mode, stopped, launching, running, programming, leaving, closed, Debugger, listens, state_number}
use Rattle.debug_spec.specs.Debugger.{replied, told, dropping}
use Rattle.debug_spec.specs.Running.{left, prepared, launch_if_prepared, single_stepped}
use Rattle.debug_spec.specs.Breakpoints.{break_set, break_cleared, no_breakpoint}
use Rattle.debug_spec.specs.MemoryTypes.{programming_told, memory_read, memory_written}

-- whether a command is allowed while the target is stopped, while a run is out, and while the flash is programmed
pub record Allowed : Type 0 where
  pub while_stopped : Bool
  pub while_running : Bool
  pub while_programming : Bool

abbrev pub in_modes : Bool → Bool → Bool → Allowed
in_modes at_rest run_out flash_open = record { while_stopped = at_rest; while_running = run_out; while_programming = flash_open }

-- for each command
abbrev pub allowed_by : Command → Allowed
allowed_by sign_off = in_modes true true true
allowed_by get_sign_on = in_modes true true true
allowed_by (set_parameter id value) = in_modes true true true
allowed_by (get_parameter id) = in_modes true true true
allowed_by (write_memory kind address bytes) = in_modes true false true
allowed_by (read_memory kind count address) = in_modes true false true
allowed_by (write_pc address) = in_modes true false false
allowed_by read_pc = in_modes true false false
allowed_by go = in_modes true false false
allowed_by single_step = in_modes true false false
allowed_by forced_stop = in_modes false true false
allowed_by reset = in_modes true false false
allowed_by (set_device_descriptor bytes) = in_modes true true true
allowed_by (erase_page address) = in_modes false false true
allowed_by get_sync = in_modes true true true
allowed_by (set_break kind number address) = in_modes true false false
allowed_by chip_erase = in_modes false false true
allowed_by enter_programming = in_modes true false false
allowed_by leave_programming = in_modes false false true
allowed_by (clear_break number address) = in_modes true false false
allowed_by (run_to address) = in_modes true false false
allowed_by clear_events = in_modes true true true

-- a command that the mode allows
abbrev pub allowed : Mode → Command → Bool
allowed stopped command = (allowed_by command).while_stopped
allowed (launching number) command = false
allowed running command = (allowed_by command).while_running
allowed programming command = (allowed_by command).while_programming
allowed leaving command = false
allowed (closed restored) command = false

-- a parameter is read
abbrev pub parameter_response : Result (List ℕ) Refusal → Response
parameter_response (Ok value) = parameter value
parameter_response (Err refusal) = refused refusal

-- a parameter is written, or that is refused
abbrev pub parameter_set : ℕ → Result (List Parameter) Refusal → Debugger → Debugger
parameter_set frame (Ok parameters) s = replied frame okay (record s { parameters = parameters })
parameter_set frame (Err refusal) s = replied frame (refused refusal) s

-- pc is set to an address of the flash; the hold stays
abbrev pub pc_written : Chip → (frame address : ℕ) → Debugger → Debugger
pc_written part frame address s =
    if nat_lt address (words_of part) then replied frame okay (record s { machine = with_pc address s.machine })
    else replied frame (refused IllegalMemoryRange) s

-- a run to an address is prepared, where a breakpoint could be planted there
abbrev pub run_prepared : Chip → (frame address : ℕ) → Debugger → Debugger
run_prepared part frame address s =
    if plantable part s.prog address then prepared part frame (Some address) s else no_breakpoint frame s

-- the flash is made the program, and from then on it is programmed, with no software breakpoint; else the frame is answered that a
-- page write failed
abbrev pub entered_by : ℕ → Tried → Debugger → Debugger
entered_by frame tried s = elim tried.ok [
  | true ↦ replied frame okay (record s { mode = programming; soft = []; device = tried.device })
  | false ↦ replied frame (refused Failed) (record s { device = tried.device })
]

-- the flash is programmed no more, and the target starts anew
abbrev pub left_programming : ℕ → Debugger → Debugger
left_programming frame s = replied frame okay (record s { mode = stopped; machine = restarted s.machine })

-- the page of a byte address is erased
abbrev pub page_erased : Chip → (frame address : ℕ) → Debugger → Debugger
page_erased part frame address s =
    if nat_lt address (flash_bytes part) then programming_told frame (erased_page part (address / page_bytes) s.prog s.device) s
    else replied frame (refused IllegalMemoryRange) s

-- what a command does that the mode allows
abbrev pub carried_out : Bool → Chip → ℕ → Command → Debugger → Debugger
carried_out planted part frame sign_off s = left part (replied frame okay s)
carried_out planted part frame get_sign_on s = replied frame (signed_on own_head own_name) s
carried_out planted part frame (set_parameter id value) s = parameter_set frame (parameter_written s.parameters id value) s
carried_out planted part frame (get_parameter id) s =
    replied frame (parameter_response (parameter_read s.parameters (state_number s.mode) id)) s
carried_out planted part frame (write_memory kind address bytes) s = memory_written part frame kind address bytes s
carried_out planted part frame (read_memory kind count address) s = memory_read part frame kind count address s
carried_out planted part frame (write_pc address) s = pc_written part frame address s
carried_out planted part frame read_pc s = replied frame (program_counter s.machine.pc) s
carried_out planted part frame go s = prepared part frame None s
carried_out planted part frame single_step s = single_stepped planted part frame s
carried_out planted part frame forced_stop s = replied frame okay (record s { stop_asked = true })
carried_out planted part frame reset s = told by_reset (replied frame okay (record s { machine = restarted s.machine }))
carried_out planted part frame (set_device_descriptor bytes) s = replied frame okay s
carried_out planted part frame (erase_page address) s = page_erased part frame address s
carried_out planted part frame get_sync s = replied frame okay s
carried_out planted part frame (set_break kind number address) s = break_set part frame kind number address s
carried_out planted part frame chip_erase s = programming_told frame (erased_all part s.prog s.device) s
carried_out planted part frame enter_programming s = entered_by frame (synced part s.prog s.device) s
carried_out planted part frame leave_programming s = left_programming frame s
carried_out planted part frame (clear_break number address) s = break_cleared frame number address s
carried_out planted part frame (run_to address) s = run_prepared part frame address s
carried_out planted part frame clear_events s = replied frame okay s

-- the answer to a request in the frame with this number
abbrev pub answered : Bool → Chip → ℕ → Request → Debugger → Debugger
answered planted part frame unknown_code s = replied frame (refused IllegalCommand) s
answered planted part frame wrong_length s = replied frame (refused IllegalValue) s
answered planted part frame (asks command) s = elim (allowed s.mode command) [
  | true ↦ carried_out planted part frame command s
  | false ↦ replied frame (refused IllegalMcuState) s
]

-- what is heard while the debugger listens
abbrev pub heard_by : Bool → Chip → Heard → Debugger → Debugger
heard_by planted part (request number asked) s = answered planted part number asked s
heard_by planted part (dropped count) s = dropping count s

-- one item of the line is heard: a frame, or a byte that is dropped
abbrev pub item : Bool → Chip → Heard → Debugger → Debugger
item planted part heard s = elim (listens s.mode) [ true ↦ heard_by planted part heard s | false ↦ s ]

-- one item, and the launch of the run that it prepared
abbrev pub item_launched : Bool → Chip → Heard → Debugger → Debugger
item_launched planted part heard s =
    elim (listens s.mode) [ true ↦ launch_if_prepared (heard_by planted part heard s) | false ↦ s ]
