-- The state of the machine: what a program of the target moves.
use Rattle.std.specs.Prelude.{◌≡◌, ℕ, ◌^◌, ◌<◌, ◌-◌, Bool, false, List, [], length, All, replicate}
use Rattle.part_spec.specs.Chip.{Chip, words_of}
use Rattle.avr_spec.specs.IoSpace.{IoState}

-- the state of the target: pc as a word address, 32 registers, the I/O space with the cycles and all output writes, the bytes of
-- SRAM, the count of steps, and the hold, which keeps interrupts back for one step
pub record Machine : Type 0 where
  pub pc : ℕ
  pub registers : List ℕ
  pub io : IoState
  pub sram : List ℕ
  pub steps : ℕ
  pub hold : Bool

-- the first data address behind the registers and the I/O space
abbrev pub sram_start : ℕ
sram_start = 0x60

-- the bytes of a part's SRAM
abbrev pub sram_bytes : Chip → ℕ
sram_bytes part = part.sram_end - sram_start

-- the I/O space at the start of a session
abbrev pub io_start : IoState
io_start = record { bytes = replicate 64 0; cycles = 0; outputs = [] }

-- the state at the start of a session
abbrev pub machine_start : Chip → Machine
machine_start part = record {
  pc = 0;
  registers = replicate 32 0;
  io = io_start;
  sram = replicate (sram_bytes part) 0;
  steps = 0;
  hold = false;
}

-- the I/O space after a reset: its bytes are 0; the count of cycles and the output writes stay
abbrev pub restarted_io : IoState → IoState
restarted_io io = record io { bytes = replicate 64 0 }

-- the state after a reset: registers, SRAM and both counts stay
abbrev pub restarted : Machine → Machine
restarted p = record p { pc = 0; io = restarted_io p.io; hold = false }

-- a byte
abbrev pub IsByte : ℕ → Type 0
IsByte n = n < 256

-- the I/O space has its shape
pub record IsShapedIo (io : IoState) : Type 0 where
  pub io_length : length io.bytes ≡ 64
  pub io_bytes : All IsByte io.bytes
  pub cycles_fit : io.cycles < 2 ^ 64

-- the state has the shape of the part
pub record IsShaped (part : Chip) (p : Machine) : Type 0 where
  pub pc_in_flash : p.pc < words_of part
  pub registers_length : length p.registers ≡ 32
  pub registers_bytes : All IsByte p.registers
  pub io : IsShapedIo p.io
  pub sram_length : length p.sram ≡ sram_bytes part
  pub sram_all_bytes : All IsByte p.sram
  pub steps_fit : p.steps < 2 ^ 64
