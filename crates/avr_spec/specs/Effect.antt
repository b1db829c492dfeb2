-- What each instruction does, one line for each, as data: only a skip and a read of flash need the words of the flash, and
-- neither sees them here. The state that an effect begins with has pc behind the instruction already, and the hold off.
-- Source: AVR Instruction Set Manual, with the cycles of a part with a 16-bit pc.
use Rattle.std.specs.Prelude.{ℕ, ◌+◌, ◌-◌, ◌*◌, ◌/◌, ◌%◌, Bool, true, false, not, ◌==◌, nat_lt, if◌then◌else◌}
use Rattle.part_spec.specs.Chip.{Chip, words_of, flash_bytes}
use Rattle.avr_spec.specs.declared.instruction.Instr.{Instr}
use Rattle.avr_spec.specs.declared.instruction.Instr.TheVariants.{Nop, Movw, Muls, Mulsu, Fmul, Fmuls, Fmulsu, Cpc, Sbc, Add, Cpse, Cp, Sub}
use Rattle.avr_spec.specs.declared.instruction.Instr.TheVariants.{Adc, And, Eor, Or, Mov, Cpi, Sbci, Subi, Ori, Andi, Ldi, LddY, LddZ, StdY}
use Rattle.avr_spec.specs.declared.instruction.Instr.TheVariants.{StdZ, Lds, LdZInc, LdZDec, LpmZ, LpmZInc, LdYInc, LdYDec, LdX, LdXInc}
use Rattle.avr_spec.specs.declared.instruction.Instr.TheVariants.{LdXDec, Pop, Sts, StZInc, StZDec, StYInc, StYDec, StX, StXInc, StXDec}
use Rattle.avr_spec.specs.declared.instruction.Instr.TheVariants.{Push, Com, Neg, Swap, Inc, Asr, Lsr, Ror, Dec, Bset, Bclr, Ijmp, Icall}
use Rattle.avr_spec.specs.declared.instruction.Instr.TheVariants.{Ret, Reti, Sleep, Wdr, Break, LpmR0, Spm, Jmp, Call, Adiw, Sbiw, Cbi}
use Rattle.avr_spec.specs.declared.instruction.Instr.TheVariants.{Sbic, Sbi, Sbis, Mul, In, Out, Rjmp, Rcall, Brbs, Brbc, Bld, Bst, Sbrc}
use Rattle.avr_spec.specs.declared.instruction.Instr.TheVariants.{Sbrs, Undefined}
use Rattle.avr_spec.specs.Bytes.{has_bit, with_bit}
use Rattle.avr_spec.specs.Flags.{add_of, adc_of, sub_of, sbc_of, neg_of, and_of, or_of, eor_of, com_of, inc_of, dec_of, lsr_of, asr_of}
use Rattle.avr_spec.specs.Flags.{ror_of, adiw_of, sbiw_of, mul_of, muls_of, mulsu_of, fmul_of, fmuls_of, fmulsu_of}
use Rattle.avr_spec.specs.IoSpace.{load_io, store_io}
use Rattle.avr_spec.specs.Machine.{Machine}
use Rattle.avr_spec.specs.Memory.{reg, with_reg, pair, with_pair, pointer_x, pointer_y, pointer_z, plus, flags, with_flag, with_result}
use Rattle.avr_spec.specs.Memory.{with_word_result, with_comparison, has_flag, store, with_loaded, load_then_add, subtract_then_load}
use Rattle.avr_spec.specs.Memory.{store_then_add, subtract_then_store, pushed, popped, pushed_pc, popped_pc}

-- the effect of an instruction: it acts in so many cycles; it skips the next instruction or not; it reads a byte of flash; or it
-- does not run, as a BREAK, or as a word that the target does not run
pub data Effect : Type 0 where
  Acts : (cycles : ℕ) → (after : Machine) → Effect
  Skips : (over : Bool) → Effect
  Reads_flash : (cycles : ℕ) → (address : ℕ) → (after : ℕ → Machine) → Effect
  At_break : Effect
  At_undefined : Effect

-- the state with pc at a word address
abbrev pub with_pc : ℕ → Machine → Machine
with_pc address p = record p { pc = address }

-- pc moved by a two's complement distance of so many values, modulo the flash
abbrev pub moved : Chip → ℕ → ℕ → ℕ → ℕ
moved part values k pc =
    if nat_lt k (values / 2) then (pc + k) % words_of part else (pc + words_of part - (values - k) % words_of part) % words_of part

-- a branch by a distance of 7 bits, where it is taken
abbrev pub branch : Chip → Bool → ℕ → Machine → Effect
branch part taken k p = Acts (if taken then 2 else 1) (with_pc (if taken then moved part 128 k p.pc else p.pc) p)

-- a call of a word address
abbrev pub called : Chip → ℕ → Machine → Machine
called part address p = with_pc address (pushed_pc part p)

-- a load of register d from the flash byte at Z, with the state that it leaves beside that register
abbrev pub flash_load : Chip → ℕ → Machine → Machine → Effect
flash_load part d p beside = Reads_flash 3 (pair p pointer_z % flash_bytes part) (λ byte. with_reg d byte beside)

-- bit b of the byte at an I/O address
abbrev pub io_bit : Machine → ℕ → ℕ → Bool
io_bit p a b = has_bit (load_io a p.io) b

-- the state after a store at an I/O address
abbrev pub with_io : ℕ → ℕ → Machine → Machine
with_io a byte p = record p { io = store_io a byte p.io }

-- the halves of a byte exchanged
abbrev pub swapped : ℕ → ℕ
swapped byte = 16 * (byte % 16) + byte / 16

-- the effect of an instruction
abbrev pub effect : Chip → Instr → Machine → Effect
effect part Nop p = Acts 1 p
effect part (Movw d r) p = Acts 1 (with_pair (2 * d) (pair p (2 * r)) p)
effect part (Muls d r) p = Acts 2 (with_word_result 0 (muls_of (reg p (16 + d)) (reg p (16 + r))) p)
effect part (Mulsu d r) p = Acts 2 (with_word_result 0 (mulsu_of (reg p (16 + d)) (reg p (16 + r))) p)
effect part (Fmul d r) p = Acts 2 (with_word_result 0 (fmul_of (reg p (16 + d)) (reg p (16 + r))) p)
effect part (Fmuls d r) p = Acts 2 (with_word_result 0 (fmuls_of (reg p (16 + d)) (reg p (16 + r))) p)
effect part (Fmulsu d r) p = Acts 2 (with_word_result 0 (fmulsu_of (reg p (16 + d)) (reg p (16 + r))) p)
effect part (Cpc d r) p = Acts 1 (with_comparison (sbc_of (reg p d) (reg p r)) p)
effect part (Sbc d r) p = Acts 1 (with_result d (sbc_of (reg p d) (reg p r)) p)
effect part (Add d r) p = Acts 1 (with_result d (add_of (reg p d) (reg p r)) p)
effect part (Cpse d r) p = Skips (reg p d == reg p r)
effect part (Cp d r) p = Acts 1 (with_comparison (sub_of (reg p d) (reg p r)) p)
effect part (Sub d r) p = Acts 1 (with_result d (sub_of (reg p d) (reg p r)) p)
effect part (Adc d r) p = Acts 1 (with_result d (adc_of (reg p d) (reg p r)) p)
effect part (And d r) p = Acts 1 (with_result d (and_of (reg p d) (reg p r)) p)
effect part (Eor d r) p = Acts 1 (with_result d (eor_of (reg p d) (reg p r)) p)
effect part (Or d r) p = Acts 1 (with_result d (or_of (reg p d) (reg p r)) p)
effect part (Mov d r) p = Acts 1 (with_reg d (reg p r) p)
effect part (Cpi d k) p = Acts 1 (with_comparison (sub_of (reg p (16 + d)) k) p)
effect part (Sbci d k) p = Acts 1 (with_result (16 + d) (sbc_of (reg p (16 + d)) k) p)
effect part (Subi d k) p = Acts 1 (with_result (16 + d) (sub_of (reg p (16 + d)) k) p)
effect part (Ori d k) p = Acts 1 (with_result (16 + d) (or_of (reg p (16 + d)) k) p)
effect part (Andi d k) p = Acts 1 (with_result (16 + d) (and_of (reg p (16 + d)) k) p)
effect part (Ldi d k) p = Acts 1 (with_reg (16 + d) k p)
effect part (LddY d q) p = Acts 2 (with_loaded part d (plus (pair p pointer_y) q) p)
effect part (LddZ d q) p = Acts 2 (with_loaded part d (plus (pair p pointer_z) q) p)
effect part (StdY r q) p = Acts 2 (store part (plus (pair p pointer_y) q) (reg p r) p)
effect part (StdZ r q) p = Acts 2 (store part (plus (pair p pointer_z) q) (reg p r) p)
effect part (Lds d address) p = Acts 2 (with_loaded part d address p)
effect part (LdZInc d) p = Acts 2 (load_then_add part d pointer_z p)
effect part (LdZDec d) p = Acts 2 (subtract_then_load part d pointer_z p)
effect part (LpmZ d) p = flash_load part d p p
effect part (LpmZInc d) p = flash_load part d p (with_pair pointer_z (plus (pair p pointer_z) 1) p)
effect part (LdYInc d) p = Acts 2 (load_then_add part d pointer_y p)
effect part (LdYDec d) p = Acts 2 (subtract_then_load part d pointer_y p)
effect part (LdX d) p = Acts 2 (with_loaded part d (pair p pointer_x) p)
effect part (LdXInc d) p = Acts 2 (load_then_add part d pointer_x p)
effect part (LdXDec d) p = Acts 2 (subtract_then_load part d pointer_x p)
effect part (Pop d) p = Acts 2 (popped part d p)
effect part (Sts r address) p = Acts 2 (store part address (reg p r) p)
effect part (StZInc r) p = Acts 2 (store_then_add part r pointer_z p)
effect part (StZDec r) p = Acts 2 (subtract_then_store part r pointer_z p)
effect part (StYInc r) p = Acts 2 (store_then_add part r pointer_y p)
effect part (StYDec r) p = Acts 2 (subtract_then_store part r pointer_y p)
effect part (StX r) p = Acts 2 (store part (pair p pointer_x) (reg p r) p)
effect part (StXInc r) p = Acts 2 (store_then_add part r pointer_x p)
effect part (StXDec r) p = Acts 2 (subtract_then_store part r pointer_x p)
effect part (Push r) p = Acts 2 (pushed part (reg p r) p)
effect part (Com d) p = Acts 1 (with_result d (com_of (reg p d)) p)
effect part (Neg d) p = Acts 1 (with_result d (neg_of (reg p d)) p)
effect part (Swap d) p = Acts 1 (with_reg d (swapped (reg p d)) p)
effect part (Inc d) p = Acts 1 (with_result d (inc_of (reg p d)) p)
effect part (Asr d) p = Acts 1 (with_result d (asr_of (reg p d)) p)
effect part (Lsr d) p = Acts 1 (with_result d (lsr_of (reg p d)) p)
effect part (Ror d) p = Acts 1 (with_result d (ror_of (reg p d)) p)
effect part (Dec d) p = Acts 1 (with_result d (dec_of (reg p d)) p)
effect part (Bset s) p = Acts 1 (record (with_flag s true p) { hold = s == 7 })
effect part (Bclr s) p = Acts 1 (with_flag s false p)
effect part Ijmp p = Acts 2 (with_pc (pair p pointer_z % words_of part) p)
effect part Icall p = Acts 3 (called part (pair p pointer_z % words_of part) p)
effect part Ret p = Acts 4 (popped_pc part p)
effect part Reti p = Acts 4 (record (with_flag 7 true (popped_pc part p)) { hold = true })
effect part Sleep p = Acts 1 p
effect part Wdr p = Acts 1 p
effect part Break p = At_break
effect part LpmR0 p = flash_load part 0 p p
effect part Spm p = At_undefined
effect part (Jmp k) p = Acts 3 (with_pc (k % words_of part) p)
effect part (Call k) p = Acts 4 (called part (k % words_of part) p)
effect part (Adiw d k) p = Acts 2 (with_word_result (24 + 2 * d) (adiw_of (pair p (24 + 2 * d)) k) p)
effect part (Sbiw d k) p = Acts 2 (with_word_result (24 + 2 * d) (sbiw_of (pair p (24 + 2 * d)) k) p)
effect part (Cbi a b) p = Acts 2 (with_io a (with_bit (load_io a p.io) b false) p)
effect part (Sbic a b) p = Skips (not (io_bit p a b))
effect part (Sbi a b) p = Acts 2 (with_io a (with_bit (load_io a p.io) b true) p)
effect part (Sbis a b) p = Skips (io_bit p a b)
effect part (Mul d r) p = Acts 2 (with_word_result 0 (mul_of (reg p d) (reg p r)) p)
effect part (In d a) p = Acts 1 (with_reg d (load_io a p.io) p)
effect part (Out r a) p = Acts 1 (with_io a (reg p r) p)
effect part (Rjmp k) p = Acts 2 (with_pc (moved part 4096 k p.pc) p)
effect part (Rcall k) p = Acts 3 (called part (moved part 4096 k p.pc) p)
effect part (Brbs s k) p = branch part (has_flag p s) k p
effect part (Brbc s k) p = branch part (not (has_flag p s)) k p
effect part (Bld d b) p = Acts 1 (with_reg d (with_bit (reg p d) b (flags p).transfer) p)
effect part (Bst d b) p = Acts 1 (with_flag 6 (has_bit (reg p d) b) p)
effect part (Sbrc r b) p = Skips (not (has_bit (reg p r) b))
effect part (Sbrs r b) p = Skips (has_bit (reg p r) b)
effect part (Undefined w) p = At_undefined
