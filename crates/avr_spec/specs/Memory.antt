-- Registers, flags, the data space and the stack of a state of the machine.
-- Sources: ATmega16 datasheet, "SRAM Data Memory"; AVR Instruction Set Manual.
use Rattle.std.specs.Prelude.{ℕ, ◌+◌, ◌-◌, ◌*◌, ◌%◌, Bool, nat_lt, if◌then◌else◌, slice_index, slice_set}
use Rattle.part_spec.specs.Chip.{Chip, words_of}
use Rattle.avr_spec.specs.Bytes.{low, high, has_bit, with_bit}
use Rattle.avr_spec.specs.Sreg.{Flags, flags_of, byte_of}
use Rattle.avr_spec.specs.Flags.{AluResult}
use Rattle.avr_spec.specs.IoSpace.{kept_byte, load_io, store_io, sreg, sph, spl}
use Rattle.avr_spec.specs.Machine.{Machine, sram_start}

-- an address so much higher, modulo 65,536
abbrev pub plus : ℕ → ℕ → ℕ
plus address n = (address + n) % 65536

-- an address so much lower, modulo 65,536
abbrev pub minus : ℕ → ℕ → ℕ
minus address n = (65536 + address - n) % 65536

-- a register
abbrev pub reg : Machine → ℕ → ℕ
reg p n = slice_index p.registers n

-- the state with a byte in a register
abbrev pub with_reg : ℕ → ℕ → Machine → Machine
with_reg n byte p = record p { registers = slice_set p.registers n byte }

-- the lower registers of the pointers X, Y and Z
abbrev pub pointer_x : ℕ
pointer_x = 26

abbrev pub pointer_y : ℕ
pointer_y = 28

abbrev pub pointer_z : ℕ
pointer_z = 30

-- the word of a register pair, by its lower register
abbrev pub pair : Machine → ℕ → ℕ
pair p n = reg p n + 256 * reg p (n + 1)

-- the state with a word in a register pair
abbrev pub with_pair : ℕ → ℕ → Machine → Machine
with_pair n word p = record p { registers = slice_set (slice_set p.registers n (low word)) (n + 1) (high word) }

-- the flags
abbrev pub flags : Machine → Flags
flags p = flags_of (kept_byte p.io sreg)

-- bit s of SREG
abbrev pub has_flag : Machine → ℕ → Bool
has_flag p s = has_bit (kept_byte p.io sreg) s

-- the state with a byte at an I/O address, with none of the rules of a store
abbrev pub with_io_byte : ℕ → ℕ → Machine → Machine
with_io_byte a byte p = record p { io = record p.io { bytes = slice_set p.io.bytes a byte } }

-- the state with these flags
abbrev pub with_flags : Flags → Machine → Machine
with_flags f p = with_io_byte sreg (byte_of f) p

-- the state with bit s of SREG as given
abbrev pub with_flag : ℕ → Bool → Machine → Machine
with_flag s wanted p = with_io_byte sreg (with_bit (kept_byte p.io sreg) s wanted) p

-- the state with the result of an operation in a register, and with its flags
abbrev pub with_result : ℕ → (Flags → AluResult) → Machine → Machine
with_result d operation p = let after = operation (flags p) in with_flags after.flags (with_reg d after.value p)

-- the same for a register pair
abbrev pub with_word_result : ℕ → (Flags → AluResult) → Machine → Machine
with_word_result d operation p = let after = operation (flags p) in with_flags after.flags (with_pair d after.value p)

-- the state with the flags of an operation alone
abbrev pub with_comparison : (Flags → AluResult) → Machine → Machine
with_comparison operation p = with_flags (operation (flags p)).flags p

-- the first data address of the I/O space
abbrev pub io_start_address : ℕ
io_start_address = 0x20

-- the byte that a load of a data address gives: registers, I/O, SRAM, and 0 behind it
abbrev pub load : Chip → ℕ → Machine → ℕ
load part address p =
    if nat_lt address io_start_address then reg p address else
    if nat_lt address sram_start then load_io (address - io_start_address) p.io else
    if nat_lt address part.sram_end then slice_index p.sram (address - sram_start) else
    0

-- the state after a store of a byte at a data address; a store behind the SRAM does nothing
abbrev pub store : Chip → ℕ → ℕ → Machine → Machine
store part address byte p = record p {
  registers = if nat_lt address io_start_address then slice_set p.registers address byte else p.registers;
  io =
      if nat_lt address io_start_address then p.io else
      if nat_lt address sram_start then store_io (address - io_start_address) byte p.io else
      p.io;
  sram =
      if nat_lt address sram_start then p.sram else
      if nat_lt address part.sram_end then slice_set p.sram (address - sram_start) byte else
      p.sram;
}

-- the state with the byte at a data address in a register
abbrev pub with_loaded : Chip → ℕ → ℕ → Machine → Machine
with_loaded part d address p = with_reg d (load part address p) p

-- load at a pointer, then add 1 to it: where the register is part of the pointer, it gets the byte
abbrev pub load_then_add : Chip → ℕ → ℕ → Machine → Machine
load_then_add part d pointer p = with_reg d (load part (pair p pointer) p) (with_pair pointer (plus (pair p pointer) 1) p)

-- subtract 1 from a pointer, then load at it
abbrev pub subtract_then_load : Chip → ℕ → ℕ → Machine → Machine
subtract_then_load part d pointer p = let address = minus (pair p pointer) 1 in with_loaded part d address (with_pair pointer address p)

-- store at a pointer, then add 1 to it: where the byte falls on the pointer, the pointer wins
abbrev pub store_then_add : Chip → ℕ → ℕ → Machine → Machine
store_then_add part r pointer p =
    let address = pair p pointer in with_pair pointer (plus address 1) (store part address (reg p r) p)

-- subtract 1 from a pointer, then store at it: the byte stored is the register's before the change
abbrev pub subtract_then_store : Chip → ℕ → ℕ → Machine → Machine
subtract_then_store part r pointer p =
    let address = minus (pair p pointer) 1 in store part address (reg p r) (with_pair pointer address p)

-- the stack pointer
abbrev pub sp : Machine → ℕ
sp p = kept_byte p.io spl + 256 * kept_byte p.io sph

-- the state with this stack pointer
abbrev pub with_sp : ℕ → Machine → Machine
with_sp address p = record p { io = record p.io { bytes = slice_set (slice_set p.io.bytes spl (low address)) sph (high address) } }

-- PUSH: store at SP, then SP is the old SP less 1
abbrev pub pushed : Chip → ℕ → Machine → Machine
pushed part byte p = with_sp (minus (sp p) 1) (store part (sp p) byte p)

-- POP: SP rises by 1, then the byte at it goes to a register
abbrev pub popped : Chip → ℕ → Machine → Machine
popped part d p = let address = plus (sp p) 1 in with_loaded part d address (with_sp address p)

-- what a call and an interrupt push: the low byte of pc at SP, the high byte at SP less 1
abbrev pub pushed_pc : Chip → Machine → Machine
pushed_pc part p =
    with_sp (minus (sp p) 2) (store part (minus (sp p) 1) (high p.pc) (store part (sp p) (low p.pc) p))

-- what a return pops: the high byte of pc at SP plus 1, the low byte at SP plus 2
abbrev pub popped_pc : Chip → Machine → Machine
popped_pc part p = record (with_sp (plus (sp p) 2) p) {
  pc = (load part (plus (sp p) 2) p + 256 * load part (plus (sp p) 1) p) % words_of part;
}
