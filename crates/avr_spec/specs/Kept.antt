-- What a core keeps of a state of the machine: the numbers of its part, and all of the state but that of the output writes it keeps
-- only the newest 4,096 and their number modulo 2^64.
--
-- A core *stands for* a state p of the machine of a part where `core ≡ kept part p`. Contracts say "for each part and p that the core
-- stands for". That is never about nothing as long as the core keeps `IsRing`: some list of output writes then stands behind what it
-- keeps.
use Rattle.std.specs.Prelude.{◌≡◌, ℕ, ◌%◌, ◌^◌, ◌<◌, ◌≤◌, Bool, List, length, take}
use Rattle.part_spec.specs.Chip.{Chip}
use Rattle.avr_spec.specs.declared.target.OutWrite.{OutWrite}
use Rattle.avr_spec.specs.IoSpace.{IoState}
use Rattle.avr_spec.specs.Machine.{Machine}

-- the output writes that are kept
abbrev pub ring_size : ℕ
ring_size = 4096

-- what is kept of the I/O space: the part, the bytes, the cycles, the newest output writes with the newest first, and how many there
-- were
pub record KeptIo : Type 0 where
  pub part : Chip
  pub bytes : List ℕ
  pub cycles : ℕ
  pub ring : List OutWrite
  pub total : ℕ

-- what is kept of a state
pub record Kept : Type 0 where
  pub part : Chip
  pub pc : ℕ
  pub registers : List ℕ
  pub io : KeptIo
  pub sram : List ℕ
  pub steps : ℕ
  pub hold : Bool

-- what is kept of the output writes: the newest
abbrev pub ring_of : List OutWrite → List OutWrite
ring_of outputs = take ring_size outputs

-- how many output writes there were, modulo 2^64
abbrev pub total_of : List OutWrite → ℕ
total_of outputs = length outputs % 2 ^ 64

-- what a core keeps of an I/O space of a part
abbrev pub kept_io : Chip → IoState → KeptIo
kept_io part io = record {
  part = part;
  bytes = io.bytes;
  cycles = io.cycles;
  ring = ring_of io.outputs;
  total = total_of io.outputs;
}

-- what a core keeps of a state of a part
abbrev pub kept : Chip → Machine → Kept
kept part p = record {
  part = part;
  pc = p.pc;
  registers = p.registers;
  io = kept_io part p.io;
  sram = p.sram;
  steps = p.steps;
  hold = p.hold;
}

-- a ring and a total that some list of output writes has: a ring that is not full has all of them
pub record IsRing (ring : List OutWrite) (total : ℕ) : Type 0 where
  pub ring_fits : length ring ≤ ring_size
  pub all_there : length ring < ring_size → total ≡ length ring
  pub total_fits : total < 2 ^ 64
