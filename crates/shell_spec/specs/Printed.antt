-- What is printed.
use Rattle.std.specs.Prelude.{ℕ, zero, suc, ◌+◌, ◌*◌, ◌/◌, ◌%◌, ◌^◌, ◌==◌, ◌&&◌, min, nat_le, if◌then◌else◌}
use Rattle.std.specs.Prelude.{List, [], ◌∷◌, ◌++◌, length, take, drop, map, codes}
use Rattle.std.specs.List.{take_while}
use Rattle.std.specs.Int.{w32, to_be_bytes}
use Rattle.std.specs.Fmt.{decimal}
use Rattle.hex.specs.Hex.{encode_lower}
use Rattle.line_spec.specs.Messages.{Event, break_at, Response, okay, parameter, memory, program_counter, signed_on, refused, refusal_code}
use Rattle.shell_spec.specs.declared.error.LineError.{LineError}
use Rattle.shell_spec.specs.declared.error.LineError.TheVariants.{Long, Unknown, Missing, Value, Extra}
use Rattle.shell_spec.specs.Words.{line_feed}

-- a text as a line
abbrev pub line : List ℕ → List ℕ
line text = text ++ line_feed ∷ []

-- what is wrong with a line, and at which column, in decimal
abbrev pub error_text : LineError → List ℕ
error_text Long = line (codes "? long")
error_text (Unknown column) = line (codes "? unknown " ++ decimal column)
error_text (Missing column) = line (codes "? missing " ++ decimal column)
error_text (Value column) = line (codes "? value " ++ decimal column)
error_text (Extra column) = line (codes "? extra " ++ decimal column)

-- the eight hexadecimal digits of a number
abbrev pub eight_digits : ℕ → List ℕ
eight_digits number = encode_lower (to_be_bytes w32 number)

-- digits without zeros in front, but at least four of eight
abbrev pub without_zeros : List ℕ → List ℕ
without_zeros digits = drop (min (length (take_while (λ digit. digit == 0x30) digits)) 4) digits

-- an address: its hexadecimal digits, at least four
abbrev pub address_text : ℕ → List ℕ
address_text address = without_zeros (eight_digits address)

-- one line of a dump
abbrev pub dump_line : (address : ℕ) → List ℕ → List ℕ
dump_line address bytes = line (address_text address ++ codes " " ++ encode_lower bytes)

-- the first lines of a dump, so many: 16 bytes each, of which the last line may have fewer; addresses go on at 0 behind the greatest
abbrev pub dump_lines : (count address : ℕ) → List ℕ → List ℕ
dump_lines zero address bytes = []
dump_lines (suc count) address bytes =
    dump_lines count address bytes ++ dump_line ((address + 16 * count) % 2 ^ 32) (take 16 (drop (16 * count) bytes))

-- the bytes of a memory from an address on; none, if there are none
abbrev pub dump : (address : ℕ) → List ℕ → List ℕ
dump address bytes = dump_lines ((length bytes + 15) / 16) address bytes

-- a byte as a character, or `.` where it is none that can be printed
abbrev pub character : ℕ → ℕ
character byte = if nat_le 0x20 byte && nat_le byte 0x7e then byte else 0x2e

-- the answer of the tool, where a dump begins at this address
abbrev pub answer_text : (address : ℕ) → Response → List ℕ
answer_text first okay = line (codes "ok")
answer_text first (parameter bytes) = line (codes "value " ++ encode_lower bytes)
answer_text first (memory bytes) = dump first bytes
answer_text first (program_counter address) = line (codes "pc " ++ address_text address)
answer_text first (signed_on head name) = line (codes "sign " ++ map character name)
answer_text first (refused refusal) = line (codes "refused " ++ encode_lower (refusal_code refusal ∷ []))

-- where the target stopped, and why
abbrev pub event_text : Event → List ℕ
event_text (break_at address cause) = line (codes "event " ++ address_text address ++ codes " cause " ++ encode_lower (cause ∷ []))

-- there is no event to take, and none can come
abbrev pub closed_text : List ℕ
closed_text = line (codes "! closed")

-- a command has no answer, as more events wait than are kept
abbrev pub events_full_text : List ℕ
events_full_text = line (codes "! events full")
