-- What the code's lines stand for.
use Rattle.std.specs.Prelude.{◌≡◌, ◌≤◌, length, Result, Ok, Err}
use Rattle.shell_spec.specs.declared.error.LineError.{LineError}
use Rattle.shell_spec.specs.Lines.{Line as Said, sign, sync, get, set, read, write, pc, pc_to, break, break_at, clear, clear_at, go, to}
use Rattle.shell_spec.specs.Lines.{step, stop, reset, wait, quit, prog, leave, erase, erase_at, page, nothing}
use Rattle.debug_shell.specs.declared.line.Line.{Line}
use Rattle.debug_shell.specs.declared.line.Line.TheVariants.{Sign, Sync, Get, Set, Read, Write, Pc, PcTo, Break, BreakAt, Clear, ClearAt}
use Rattle.debug_shell.specs.declared.line.Line.TheVariants.{Go, To, Step, Stop, Reset, Wait, Quit, Prog, Leave, Erase, EraseAt, Page}
use Rattle.debug_shell.specs.declared.line.Line.TheVariants.{Nothing}

-- what the line says
abbrev pub said_by : Line → Said
said_by Sign = sign
said_by Sync = sync
said_by (Get id) = get id
said_by (Set id digits) = set id digits.now
said_by (Read kind address count) = read kind address count
said_by (Write kind address digits) = write kind address digits.now
said_by Pc = pc
said_by (PcTo address) = pc_to address
said_by (Break address) = break address
said_by (BreakAt address number) = break_at address number
said_by (Clear address) = clear address
said_by (ClearAt address number) = clear_at address number
said_by Go = go
said_by (To address) = to address
said_by Step = step
said_by Stop = stop
said_by Reset = reset
said_by Wait = wait
said_by Quit = quit
said_by Prog = prog
said_by Leave = leave
said_by Erase = erase
said_by (EraseAt address) = erase_at address
said_by (Page address digits) = page address digits.now
said_by Nothing = nothing

-- a reader answers with the line, or with what is wrong
abbrev pub Says : Result Line LineError → Result Said LineError → Type 0
Says (Ok line) wanted = wanted ≡ Ok (said_by line)
Says (Err error) wanted = wanted ≡ Err error

-- its numbers and digits are within the limits of their forms
abbrev pub IsWithin : Line → Type 0
IsWithin (Get id) = id ≤ 0xff
IsWithin (Set id digits) = (id ≤ 0xff) × (length digits.now ≤ 128)
IsWithin (Write kind address digits) = length digits.now ≤ 128
IsWithin (BreakAt address number) = number ≤ 0xff
IsWithin (ClearAt address number) = number ≤ 0xff
IsWithin (Page address digits) = length digits.now ≤ 256
IsWithin _ = Unit {0}
