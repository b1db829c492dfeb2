-- Requests that ask the run that is out to stop.
use Rattle.std.specs.Prelude.{Bool, true, false}
use Rattle.line_spec.specs.Messages.{Command, sign_off, get_sign_on, set_parameter, get_parameter, write_memory, read_memory, write_pc}
use Rattle.line_spec.specs.Messages.{read_pc, go, single_step, forced_stop, reset, set_device_descriptor, erase_page, get_sync, set_break}
use Rattle.line_spec.specs.Messages.{chip_erase, enter_programming, leave_programming, clear_break, run_to, clear_events}
use Rattle.line_spec.specs.Hearing.{Request, asks, unknown_code, wrong_length}

-- a command that asks for a stop
abbrev pub asks_to_stop : Command → Bool
asks_to_stop sign_off = true
asks_to_stop get_sign_on = false
asks_to_stop (set_parameter id value) = false
asks_to_stop (get_parameter id) = false
asks_to_stop (write_memory kind address bytes) = false
asks_to_stop (read_memory kind count address) = false
asks_to_stop (write_pc address) = false
asks_to_stop read_pc = false
asks_to_stop go = false
asks_to_stop single_step = false
asks_to_stop forced_stop = true
asks_to_stop reset = false
asks_to_stop (set_device_descriptor bytes) = false
asks_to_stop (erase_page address) = false
asks_to_stop get_sync = false
asks_to_stop (set_break kind number address) = false
asks_to_stop chip_erase = false
asks_to_stop enter_programming = false
asks_to_stop leave_programming = false
asks_to_stop (clear_break number address) = false
asks_to_stop (run_to address) = false
asks_to_stop clear_events = false

-- and so of a request
abbrev pub request_to_stop : Request → Bool
request_to_stop unknown_code = false
request_to_stop wrong_length = false
request_to_stop (asks command) = asks_to_stop command
