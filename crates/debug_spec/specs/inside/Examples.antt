-- How the examples of `src/rows.rt` are set up and read.
use Rattle.std.specs.Prelude.{ℕ, suc, ◌-◌, Bool, true, List, [], ◌∷◌, ◌++◌, length, replicate, map}
use Rattle.part_spec.specs.Chip.{Chip, m16, page_words, words_of}
use Rattle.line_spec.specs.Frames.{Frame}
use Rattle.line_spec.specs.Messages.{Command, set_break, go, sign_off, forced_stop, read_memory, write_memory}
use Rattle.line_spec.specs.Hearing.{Heard, request, asks}
use Rattle.debug_spec.specs.Patch.{patch}
use Rattle.debug_spec.specs.Device.{Outcome, failed, Device}
use Rattle.part_spec.specs.Pages.{PageWrite}
use Rattle.debug_spec.specs.Debugger.{Debugger, opened}
use Rattle.debug_spec.specs.Replay.{over_all, totals, session_journal}

-- an ATmega16 with one page of flash
abbrev pub small : Chip
small = record m16 { pages = 1 }

-- one with two pages
abbrev pub double : Chip
double = record m16 { pages = 2 }

-- a page of these words, and erased words behind them
abbrev pub filled : List ℕ → List ℕ
filled words = words ++ replicate (page_words - length words) 0xffff

-- LDI r16, 1; OUT DDRB, r16; OUT PORTB, r16; RJMP to itself
abbrev pub port_words : List ℕ
port_words = 0xe001 ∷ 0xbb07 ∷ 0xbb08 ∷ 0xcfff ∷ []

-- an erased device, whose page writes and launches have these outcomes
abbrev pub erased_device : Chip → List Outcome → Device
erased_device part outcomes = record { words = replicate (words_of part) 0xffff; asked = []; outcomes = outcomes }

-- commands in frames that are numbered from one on
abbrev pub numbered : ℕ → List Command → List Heard
numbered number [] = []
numbered number (command ∷ commands) = request number (asks command) ∷ numbered (suc number) commands

-- the end of the patched debugger's session over these commands, and of the plain one's
abbrev pub session : Bool → List ℕ → List ℕ → List Outcome → List Command → Debugger
session planted stops words outcomes commands =
    over_all planted small stops (numbered 0 commands) [] (opened small (filled words) (erased_device small outcomes))

-- the end of one on two pages, each with the program of one port, in which no run is launched
abbrev pub session_on_two : List Outcome → List Command → Debugger
session_on_two outcomes commands =
    over_all true double [] (numbered 0 commands) []
    (opened double (filled port_words ++ filled port_words) (erased_device double outcomes))

-- a frame that is sent
abbrev pub sends : ℕ → List ℕ → Frame
sends number body = record { number = number; body = body }

-- a break event that is sent, with a pc below 256
abbrev pub tells : ℕ → ℕ → Frame
tells pc cause = record { number = 0xffff; body = 0xe0 ∷ pc ∷ 0 ∷ 0 ∷ 0 ∷ cause ∷ [] }

-- what a session shows: the frames sent; cycles, steps, output writes and dropped bytes; and the page writes that were made
pub record Shown : Type 0 where
  pub frames : List Frame
  pub counts : List ℕ
  pub pages : List PageWrite

-- what this one shows
abbrev pub shown : Debugger → Shown
shown s = let all = totals s in record {
  frames = s.sent;
  counts = all.cycles ∷ all.steps ∷ all.writes ∷ all.dropped ∷ [];
  pages = session_journal s;
}

-- writes of page 0, with a BREAK at each of these sets of addresses of the program
abbrev pub pages_of : List ℕ → List (List ℕ) → List PageWrite
pages_of words sets = map (λ set. record { page = 0; words = patch (filled words) set }) sets

-- a failed write that leaves the page with a BREAK at each of these addresses
abbrev pub leaves : List ℕ → List ℕ → Outcome
leaves words set = failed (patch (filled words) set)

-- a breakpoint is met, the program is read, a second run is forced to stop behind it
abbrev pub port_commands : List Command
port_commands = set_break 1 0 2 ∷ go ∷ read_memory 0xa0 8 0 ∷ go ∷ forced_stop ∷ sign_off ∷ []

-- the bytes of the program, as they are answered, and with the erased rest of their page as they are written
abbrev pub port_bytes : List ℕ
port_bytes = 0x82 ∷ 0x01 ∷ 0xe0 ∷ 0x07 ∷ 0xbb ∷ 0x08 ∷ 0xbb ∷ 0xff ∷ 0xcf ∷ []

abbrev pub port_page : List ℕ
port_page = (0x01 ∷ 0xe0 ∷ 0x07 ∷ 0xbb ∷ 0x08 ∷ 0xbb ∷ 0xff ∷ 0xcf ∷ []) ++ replicate 120 0xff

-- a failed erasing of the program's page, which leaves its first three words erased
abbrev pub half_erased : Outcome
half_erased = failed (filled (0xffff ∷ 0xffff ∷ 0xffff ∷ 0xcfff ∷ []))

-- writes of this page with the program of one port, and with erased words
abbrev pub loaded : ℕ → PageWrite
loaded page = record { page = page; words = filled port_words }

abbrev pub cleared : ℕ → PageWrite
cleared page = record { page = page; words = replicate page_words 0xffff }

-- SEI, then NOPs, with a RETI at the vectors 12 and 26
abbrev pub timer_words : List ℕ
timer_words = 0x9478 ∷ replicate 0x11 0 ++ (0x9518 ∷ []) ++ replicate 0x13 0 ++ (0x9518 ∷ [])

-- SP, the mask of timer 0's overflow, timer 0 running from its last count on; breakpoints behind SEI and at the vector; three runs
abbrev pub timer_commands : List Command
timer_commands =
    write_memory 0x30 0x3d (0x5f ∷ 0x04 ∷ []) ∷ write_memory 0x30 0x39 (0x01 ∷ []) ∷ write_memory 0x30 0x32 (0xff ∷ 0x01 ∷ []) ∷
    set_break 1 0 0x01 ∷ set_break 1 0 0x02 ∷ set_break 1 0 0x12 ∷ go ∷ go ∷ go ∷ sign_off ∷ []

-- LDS r16, 0x0060; RJMP to itself
abbrev pub operand_words : List ℕ
operand_words = 0x9100 ∷ 0x0060 ∷ 0xcfff ∷ []

-- a breakpoint on the operand, a byte at its address, and a run that is forced to stop
abbrev pub operand_commands : List Command
operand_commands =
    write_memory 0x20 0x60 (0x2a ∷ []) ∷ set_break 1 0 1 ∷ go ∷ forced_stop ∷ read_memory 0x20 1 0x10 ∷ sign_off ∷ []

-- the reply OK
abbrev pub okays : ℕ → Frame
okays number = sends number (0x80 ∷ [])

-- the same with timer 0's compare match at 5 as well, a comparator in place of the second breakpoint and one at the vector of the
-- compare match, and a fourth run
abbrev pub compare_commands : List Command
compare_commands =
    write_memory 0x30 0x3d (0x5f ∷ 0x04 ∷ []) ∷ write_memory 0x30 0x39 (0x03 ∷ []) ∷ write_memory 0x30 0x3c (0x05 ∷ []) ∷
    write_memory 0x30 0x32 (0xff ∷ 0x01 ∷ []) ∷ set_break 1 0 0x01 ∷ set_break 1 2 0x02 ∷ set_break 1 0 0x12 ∷ set_break 1 1 0x26 ∷
    go ∷ go ∷ go ∷ go ∷ sign_off ∷ []

-- the start of a session over such commands
abbrev pub start_of : List ℕ → Debugger
start_of words = opened small (filled words) (erased_device small [])
