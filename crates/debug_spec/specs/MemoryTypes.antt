-- The memories that the host reads and writes, by their types.
use Rattle.std.specs.Prelude.{ℕ, zero, suc, ◌+◌, ◌/◌, ◌%◌, Bool, true, not, ◌&&◌, ◌||◌, ◌==◌, nat_lt, if◌then◌else◌, List, [], ◌∷◌, length}
use Rattle.std.specs.Prelude.{slice_index, Option, Some, None}
use Rattle.part_spec.specs.Chip.{Chip, flash_bytes, page_bytes}
use Rattle.part_spec.specs.Pages.{paired, overlaid}
use Rattle.avr_spec.specs.Machine.{Machine}
use Rattle.avr_spec.specs.IoSpace.{load_io}
use Rattle.avr_spec.specs.Memory.{load, store}
use Rattle.avr_spec.specs.Effect.{with_io}
use Rattle.avr_spec.specs.Step.{flash_byte}
use Rattle.line_spec.specs.declared.refusal.Refusal.TheVariants.{Failed, IllegalMemoryType, IllegalMemoryRange}
use Rattle.line_spec.specs.Messages.{Response, memory, okay, refused, memory_limit}
use Rattle.debug_spec.specs.Programming.{Programmed, programmed_from}
use Rattle.debug_spec.specs.Debugger.{Mode, stopped, launching, running, programming, leaving, closed, Debugger, replied}

-- a memory: the data space, the I/O space, the program, the fuses, the lock bits, and the signature
pub data Memory : Type 0 where
  data_space : Memory
  io_space : Memory
  program : Memory
  fuses : Memory
  lock_bits : Memory
  signature : Memory

-- the fuses, low, high and extended, and the lock bits: as the part leaves the factory; they are never written
abbrev pub fuse_bytes : List ℕ
fuse_bytes = 0xe1 ∷ 0x99 ∷ 0xff ∷ []

abbrev pub lock_bytes : List ℕ
lock_bytes = 0xff ∷ []

-- what a memory type reads and what it writes, in one mode; where there is none the type is refused
pub record Access : Type 0 where
  pub read : Option Memory
  pub written : Option Memory

-- both, reading alone, and neither
abbrev pub both : Memory → Access
both kind = record { read = Some kind; written = Some kind }

abbrev pub reading : Memory → Access
reading kind = record { read = Some kind; written = None }

abbrev pub neither : Access
neither = record { read = None; written = None }

-- a memory type: its number, and what it is while the target is stopped and while the flash is programmed
pub record MemoryType : Type 0 where
  pub number : ℕ
  pub while_stopped : Access
  pub while_programming : Access

abbrev pub type_line : ℕ → Access → Access → MemoryType
type_line number while_stopped while_programming =
    record { number = number; while_stopped = while_stopped; while_programming = while_programming }

-- every memory type (AVR067, 'Memory types')
abbrev pub memory_types : List MemoryType
memory_types =
    type_line 0x20 (both data_space) neither ∷  -- SRAM
    type_line 0x30 (both io_space) neither ∷  -- IO_SHADOW
    type_line 0xA0 (reading program) (reading program) ∷  -- SPM
    type_line 0xB0 neither (both program) ∷  -- FLASH_PAGE
    type_line 0xB2 (reading fuses) (reading fuses) ∷  -- FUSE_BITS
    type_line 0xB3 (reading lock_bits) (reading lock_bits) ∷  -- LOCK_BITS
    type_line 0xB4 (reading signature) (reading signature) ∷  -- SIGN_JTAG
    []

-- what a line of the table is in a mode
abbrev pub access_in : Mode → MemoryType → Access
access_in stopped line = line.while_stopped
access_in (launching number) line = neither
access_in running line = neither
access_in programming line = line.while_programming
access_in leaving line = neither
access_in (closed restored) line = neither

-- what a type is in a mode, by a table
abbrev pub access_by : List MemoryType → Mode → ℕ → Access
access_by [] mode kind = neither
access_by (line ∷ lines) mode kind = if kind == line.number then access_in mode line else access_by lines mode kind

-- what a type is in a mode
abbrev pub access_of : Mode → ℕ → Access
access_of mode kind = access_by memory_types mode kind

-- the bytes of a memory
abbrev pub memory_size : Chip → Memory → ℕ
memory_size part data_space = 65536
memory_size part io_space = 64
memory_size part program = flash_bytes part
memory_size part fuses = length fuse_bytes
memory_size part lock_bits = length lock_bytes
memory_size part signature = length part.signature

-- the byte of a memory at an address: a load with no cycles, a byte of the program, in which nothing is planted, or a constant
abbrev pub byte_in : Chip → Memory → Debugger → ℕ → ℕ
byte_in part data_space s address = load part address s.machine
byte_in part io_space s address = load_io address s.machine.io
byte_in part program s address = flash_byte s.prog address
byte_in part fuses s address = slice_index fuse_bytes address
byte_in part lock_bits s address = slice_index lock_bytes address
byte_in part signature s address = slice_index part.signature address

-- so many bytes from an address on
abbrev pub bytes_from : (ℕ → ℕ) → ℕ → ℕ → List ℕ
bytes_from byte_at address zero = []
bytes_from byte_at address (suc count) = byte_at address ∷ bytes_from byte_at (suc address) count

-- the response to a read of a memory, if there is one of this type
abbrev pub read_of : Chip → Option Memory → (count address : ℕ) → Debugger → Response
read_of part None count address s = refused IllegalMemoryType
read_of part (Some kind) count address s =
    if nat_lt memory_limit count || nat_lt (memory_size part kind) (address + count) then refused IllegalMemoryRange
    else memory (bytes_from (byte_in part kind s) address count)

-- a read is answered
abbrev pub memory_read : Chip → (frame kind count address : ℕ) → Debugger → Debugger
memory_read part frame kind count address s =
    replied frame (read_of part (access_of s.mode kind).read count address s) s

-- the target once bytes are stored from an address on, in rising order and with no cycles
abbrev pub stored_from : (ℕ → ℕ → Machine → Machine) → ℕ → List ℕ → Machine → Machine
stored_from store_at address [] p = p
stored_from store_at address (byte ∷ bytes) p = stored_from store_at (suc address) bytes (store_at address byte p)

-- the frame is answered that the target was changed so
abbrev pub changed : ℕ → Machine → Debugger → Debugger
changed frame p s = replied frame okay (record s { machine = p })

-- the frame is answered whether the pages were programmed
abbrev pub programming_told : ℕ → Programmed → Debugger → Debugger
programming_told frame done s =
    replied frame (if done.ok then okay else refused Failed) (record s { prog = done.prog; device = done.device })

-- the pages of these bytes, from a byte address on, are programmed
abbrev pub pages_programmed : ℕ → List ℕ → List ℕ → Debugger → Programmed
pages_programmed address bytes prog s =
    programmed_from (overlaid prog (address / 2) (paired bytes)) (address / page_bytes) (length bytes / page_bytes) prog s.device

-- a write to a memory is done and answered; those that are never written are refused
abbrev pub written_to : Chip → Memory → (frame address : ℕ) → List ℕ → Debugger → Debugger
written_to part data_space frame address bytes s = changed frame (stored_from (store part) address bytes s.machine) s
written_to part io_space frame address bytes s = changed frame (stored_from with_io address bytes s.machine) s
written_to part program frame address bytes s = programming_told frame (pages_programmed address bytes s.prog s) s
written_to part fuses frame address bytes s = replied frame (refused IllegalMemoryType) s
written_to part lock_bits frame address bytes s = replied frame (refused IllegalMemoryType) s
written_to part signature frame address bytes s = replied frame (refused IllegalMemoryType) s

-- the program is written in whole pages, every other memory byte by byte
abbrev pub in_whole_units : Memory → (address count : ℕ) → Bool
in_whole_units program address count = (address % page_bytes == 0) && (count % page_bytes == 0)
in_whole_units data_space address count = true
in_whole_units io_space address count = true
in_whole_units fuses address count = true
in_whole_units lock_bits address count = true
in_whole_units signature address count = true

-- a write to a memory is answered, if there is one of this type to be written
abbrev pub write_of : Chip → Option Memory → (frame address : ℕ) → List ℕ → Debugger → Debugger
write_of part None frame address bytes s = replied frame (refused IllegalMemoryType) s
write_of part (Some kind) frame address bytes s =
    if nat_lt (memory_size part kind) (address + length bytes) || not (in_whole_units kind address (length bytes))
    then replied frame (refused IllegalMemoryRange) s
    else written_to part kind frame address bytes s

-- a write is answered
abbrev pub memory_written : Chip → (frame kind address : ℕ) → List ℕ → Debugger → Debugger
memory_written part frame kind address bytes s = write_of part (access_of s.mode kind).written frame address bytes s
