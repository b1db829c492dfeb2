-- How the examples of `src/clean_rows.rt` and `src/number_rows.rt` are set up.
use Rattle.std.specs.Prelude.{ℕ, zero, suc, Bool, true, false, List, [], ◌∷◌, ◌++◌, replicate}
use Rattle.part_spec.specs.Chip.{Chip, m16, words_of}
use Rattle.part_spec.specs.Pages.{PageWrite}
use Rattle.avr_spec.specs.Machine.{Machine, machine_start, io_start}
use Rattle.avr_spec.specs.Step.{step}
use Rattle.line_spec.specs.Frames.{Frame}
use Rattle.line_spec.specs.Messages.{Command, set_break, go, sign_off, write_memory, chip_erase, enter_programming, leave_programming}
use Rattle.debug_spec.specs.Run.{Run, run_of}
use Rattle.debug_spec.specs.Debugger.{Debugger, opened}
use Rattle.debug_spec.specs.Replay.{over_all}
use Rattle.debug_spec.specs.CleanSessions.{clean_session, clean_frames}
use Rattle.debug_spec.specs.inside.Examples.{small, filled, numbered, start_of, okays}

-- all runs of the plain session over these commands are clean
abbrev pub is_clean_session : List ℕ → List ℕ → List Command → Bool
is_clean_session stops words commands = clean_session small stops (numbered 0 commands) [] (start_of words)

-- what that session sends up to and with the reply that starts its first run that is not clean
abbrev pub frames_while_clean : List ℕ → List ℕ → List Command → List Frame
frames_while_clean stops words commands = clean_frames small stops (numbered 0 commands) [] (start_of words)

-- LDI r30, 6; a form of LPM, which reads the low byte of word 3; RJMP to itself; the word that is read
abbrev pub lpm_words : ℕ → List ℕ
lpm_words lpm = 0xe0e6 ∷ lpm ∷ 0xcfff ∷ 0x2211 ∷ []

-- the run of that program from its start with breakpoints at a set
abbrev pub lpm_run : ℕ → List ℕ → Run
lpm_run lpm set = run_of false (filled (lpm_words lpm)) (machine_start small) set []

-- LDI r16, 2; OUT DDRB, r16; OUT PORTB, r16; RJMP to itself
abbrev pub changed_words : List ℕ
changed_words = 0xe002 ∷ 0xbb07 ∷ 0xbb08 ∷ 0xcfff ∷ []

-- the flash is erased, its page is programmed with that program, and a run is made to a breakpoint
abbrev pub program_commands : List Command
program_commands =
    enter_programming ∷ chip_erase ∷
    write_memory 0xb0 0 ((0x02 ∷ 0xe0 ∷ 0x07 ∷ 0xbb ∷ 0x08 ∷ 0xbb ∷ 0xff ∷ 0xcf ∷ []) ++ replicate 120 0xff) ∷
    leave_programming ∷ set_break 1 0 2 ∷ go ∷ sign_off ∷ []

-- an ATmega16 with two pages of flash
abbrev pub two_pages : Chip
two_pages = record m16 { pages = 2 }

-- the end of a session on a part whose flash holds NOPs already
abbrev pub nop_session : Chip → List ℕ → List Command → Debugger
nop_session part stops commands =
    let nops = replicate (words_of part) 0 in
    over_all true part stops (numbered 0 commands) [] (opened part nops (record { words = nops; asked = []; outcomes = [] }))

-- software breakpoints at n addresses from one on
abbrev pub breaks_from : (address n : ℕ) → List Command
breaks_from address zero = []
breaks_from address (suc n) = set_break 1 0 address ∷ breaks_from (suc address) n

-- the replies OK to n frames from one on
abbrev pub okays_from : (number n : ℕ) → List Frame
okays_from number zero = []
okays_from number (suc n) = okays number ∷ okays_from (suc number) n

-- a page write
abbrev pub page_write : ℕ → List ℕ → PageWrite
page_write page words = record { page = page; words = words }

-- the cycles and the steps of a state
abbrev pub cycles_and_steps : Machine → List ℕ
cycles_and_steps p = p.io.cycles ∷ p.steps ∷ []

-- the state of the target with these counts, once the word is executed from there
abbrev pub stepped_from : (cycles steps word : ℕ) → Machine
stepped_from cycles steps word =
    step small (record (machine_start small) { io = record io_start { cycles = cycles }; steps = steps }) (filled (word ∷ []))
