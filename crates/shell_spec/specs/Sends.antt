-- The command that a line sends.
use Rattle.std.specs.Prelude.{ℕ, Bool, true, false, List, [], Option, None, Some, Result, Ok, Err}
use Rattle.hex.specs.Hex.{decode_of}
use Rattle.hex.specs.declared.error.FromHexError.{FromHexError}
use Rattle.line_spec.specs.Messages.{Command, sign_off, get_sign_on, set_parameter, get_parameter, write_memory, read_memory, write_pc}
use Rattle.line_spec.specs.Messages.{read_pc, single_step, forced_stop, erase_page, get_sync, set_break, chip_erase, enter_programming}
use Rattle.line_spec.specs.Messages.{leave_programming, clear_break, run_to, go as run, reset as restart}
use Rattle.shell_spec.specs.Lines.{Line, sign, sync, get, set, read, write, pc, pc_to, break, break_at, clear, clear_at, go, to, step, stop}
use Rattle.shell_spec.specs.Lines.{reset, wait, quit, prog, leave, erase, erase_at, page, nothing}

-- the bytes that were decoded
abbrev pub decoded : Result (List ℕ) FromHexError → List ℕ
decoded (Ok bytes) = bytes
decoded (Err error) = []

-- the bytes of digits, two for each; those of a line that was read are right
abbrev pub bytes_of : (digits : List ℕ) → List ℕ
bytes_of digits = decoded (decode_of digits)

-- a breakpoint of the program or, numbered, of a comparator (AVR067, 'CMND_SET_BREAK')
abbrev pub breakpoint : ℕ
breakpoint = 1

-- the memory type of the flash's pages
abbrev pub pages : ℕ
pages = 0xb0

-- the command; `wait` sends none, and what does nothing neither
abbrev pub command_of : Line → Option Command
command_of sign = Some get_sign_on
command_of sync = Some get_sync
command_of (get id) = Some (get_parameter id)
command_of (set id digits) = Some (set_parameter id (bytes_of digits))
command_of (read kind address count) = Some (read_memory kind count address)
command_of (write kind address digits) = Some (write_memory kind address (bytes_of digits))
command_of pc = Some read_pc
command_of (pc_to address) = Some (write_pc address)
command_of (break address) = Some (set_break breakpoint 0 address)
command_of (break_at address number) = Some (set_break breakpoint number address)
command_of (clear address) = Some (clear_break 0 address)
command_of (clear_at address number) = Some (clear_break number address)
command_of go = Some run
command_of (to address) = Some (run_to address)
command_of step = Some single_step
command_of stop = Some forced_stop
command_of reset = Some restart
command_of wait = None
command_of quit = Some sign_off
command_of prog = Some enter_programming
command_of leave = Some leave_programming
command_of erase = Some chip_erase
command_of (erase_at address) = Some (erase_page address)
command_of (page address digits) = Some (write_memory pages address (bytes_of digits))
command_of nothing = None

-- whether the line takes an event
abbrev pub is_wait : Line → Bool
is_wait wait = true
is_wait _ = false

-- the address at which a dump begins: that of a `read` line
abbrev pub dump_address : Line → ℕ
dump_address (read kind address count) = address
dump_address _ = 0
