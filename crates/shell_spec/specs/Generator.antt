-- The made session: from a seed and a count the commands of a session over one small program, for tests and measurements.
use Rattle.std.specs.Prelude.{ℕ, zero, suc, ◌+◌, ◌*◌, ◌/◌, ◌%◌, ◌^◌, Bool, List, [], ◌∷◌, ◌++◌, length, flat_map, slice_index_or}
use Rattle.part_spec.specs.Chip.{Chip}
use Rattle.part_spec.specs.Pages.{erased, overlaid}
use Rattle.line_spec.specs.Frames.{bytes_of}
use Rattle.line_spec.specs.Messages.{Command, get_sync, single_step, set_break, clear_break}
use Rattle.line_spec.specs.Messages.{go, forced_stop, read_memory, read_pc, sign_off}
use Rattle.debug_spec.specs.Device.{Device}
use Rattle.debug_spec.specs.Debugger.{Debugger, opened}
use Rattle.debug_spec.specs.Replay.{over_all}
use Rattle.shell_spec.specs.Sent.{frames_of, requests_of}
use Rattle.shell_spec.specs.Summary.{summary}

-- LDI r16, 1; OUT DDRB, r16; OUT PORTB, r16; INC r16; OUT PORTB, r16; RJMP back to INC
abbrev pub made_words : List ℕ
made_words = 0xe001 ∷ 0xbb07 ∷ 0xbb08 ∷ 0x9503 ∷ 0xbb08 ∷ 0xcffd ∷ []

-- the program: these words in an erased flash
abbrev pub made_program : Chip → List ℕ
made_program part = overlaid (erased part) 0 made_words

-- a run that is asked to stop has made 50 steps
abbrev pub made_stops : List ℕ
made_stops = 50 ∷ []

-- the seed behind a seed: a linear congruence
abbrev pub next_seed : ℕ → ℕ
next_seed seed = (seed * 1664525 + 1013904223) % 2 ^ 32

-- the commands from which a seed chooses, with the address that it gives
abbrev pub choices : (address : ℕ) → List Command
choices address =
    get_sync ∷ single_step ∷ set_break 1 0 address ∷ clear_break 0 address ∷ go ∷ forced_stop ∷ read_memory 0x20 0x10 0x10 ∷ read_pc ∷ []

-- the command that a seed chooses by its top byte; the bytes above its lowest give an address in the program
abbrev pub chosen : (seed : ℕ) → Command
chosen seed = slice_index_or (choices (seed / 256 % 6)) (seed / 2 ^ 24 % 8) get_sync

-- so many commands, chosen by the seeds behind this one
abbrev pub chosen_behind : (seed count : ℕ) → List Command
chosen_behind seed zero = []
chosen_behind seed (suc count) = let next = next_seed seed in chosen next ∷ chosen_behind next count

-- the commands of the made session
abbrev pub made_commands : (seed count : ℕ) → List Command
made_commands seed count = chosen_behind seed count ++ sign_off ∷ []

-- the bytes of its line
abbrev pub made_bytes : (seed count : ℕ) → List ℕ
made_bytes seed count = flat_map bytes_of (frames_of 0 (made_commands seed count))

-- the debugger at its end
abbrev pub made_session : Bool → Chip → (seed count : ℕ) → Device → Debugger
made_session planted part seed count device =
    over_all planted part made_stops (requests_of 0 (made_commands seed count)) [] (opened part (made_program part) device)

-- its summary
abbrev pub made_summary : Bool → Chip → (seed count : ℕ) → Device → List ℕ
made_summary planted part seed count device =
    summary (length (made_commands seed count)) (made_session planted part seed count device)
