-- What keeps the shape of the state: bytes in lists, the I/O space and its ticks, registers, loads and stores.
use Rattle.std.proofs.Common.{◌≡◌, ℕ, zero, suc, ◌+◌, ◌-◌, ◌/◌, ◌%◌, ◌^◌, ◌<◌, ◌≤◌, ◌==◌, ◌&&◌, nat_lt, Bool, true, false, cond, List}
use Rattle.std.proofs.Common.{length, get_or, set, All, bit_and, refl, sym, ap, ◌∙◌, subst, arith, ◌⊎◌, inl, inr, length-set, ltb-true}
use Rattle.std.proofs.lemmas.Bool.{cases_lt}
use Rattle.std.proofs.lemmas.List.{get_or_past}
use Rattle.std.proofs.lemmas.List.Elements.{All-get_or, All-set}
use Rattle.std.proofs.lemmas.Nat.{and_le_l}
use Rattle.std.proofs.Math.Nat.{mod-lt}
use Rattle.part_spec.specs.Chip.{Chip, words_of}
use Rattle.avr_spec.specs.Bytes.{with_bit, bit, low, high}
use Rattle.avr_spec.specs.Sreg.{Flags, byte_of}
use Rattle.avr_spec.specs.IoSpace.{IoState, kept_byte, load_io, stored_byte, store_io, is_read_only, is_pin, tifr, tifr_flags, ucsra, eecr}
use Rattle.avr_spec.specs.IoSpace.{sreg}
use Rattle.avr_spec.specs.Timers.{Timer, timer0, timer2, next_count, next_flags, clears_on_compare, counts_now, counted, clocked, one_cycle}
use Rattle.avr_spec.specs.Timers.{tick, ticks}
use Rattle.avr_spec.specs.Machine.{Machine, IsByte, IsShapedIo, IsShaped}
use Rattle.avr_spec.specs.Memory.{reg, with_reg, with_pair, with_io_byte, with_flags, with_flag, load, store, with_sp, io_start_address}
use Rattle.avr_spec.proofs.Computing.{all_pairs, at_pairs}
use Rattle.avr_spec.proofs.TickLemmas.{tick-is, clocked-is}

-- the two ways of a choice
pub chosen : {A : Type 0} (P : A → Type 0) (b : Bool) (x y : A) → P x → P y → P (cond b x y)
chosen P true x y px py = px
chosen P false x y px py = py

-- an element of a list of bytes, or 0 past its end
pub byte_at : (xs : List ℕ) (i : ℕ) → All IsByte xs → get_or xs i 0 < 256
byte_at xs i all = by_length (cases_lt i (length xs))
  where
    by_length : (i < length xs) ⊎ (length xs ≤ i) → get_or xs i 0 < 256
    by_length (inl inside) = All-get_or IsByte xs i 0 inside all
    by_length (inr past) = let e : get_or xs i 0 ≡ 0 = get_or_past xs i 0 past in omega arith

pub low-below : (n : ℕ) → low n < 256
low-below n = mod-lt n (omega arith)

pub high-below : (n : ℕ) → high n < 256
high-below n = mod-lt (n / 256) (omega arith)

pub byte_of-below : (f : Flags) → byte_of f < 256
byte_of-below f = omega (
  arith,
  bit-below f.interrupts,
  bit-below f.transfer,
  bit-below f.half_carry,
  bit-below f.sign,
  bit-below f.overflow,
  bit-below f.negative,
  bit-below f.zero,
  bit-below f.carry,
)
  where
    bit-below : (b : Bool) → bit b < 2
    bit-below true = omega arith
    bit-below false = omega arith

-- one bit of a byte changed leaves a byte
bit_set_below : all_pairs 256 8 (λ n k. nat_lt (with_bit n k true) 256) ≡ true
bit_set_below = refl

bit_cleared_below : all_pairs 256 8 (λ n k. nat_lt (with_bit n k false) 256) ≡ true
bit_cleared_below = refl

pub with_bit-below : (n k : ℕ) (wanted : Bool) → n < 256 → k < 8 → with_bit n k wanted < 256
with_bit-below n k true hn hk =
    ltb-true (with_bit n k true) 256 (at_pairs 256 8 (λ i j. nat_lt (with_bit i j true) 256) bit_set_below n k hn hk)
with_bit-below n k false hn hk =
    ltb-true (with_bit n k false) 256 (at_pairs 256 8 (λ i j. nat_lt (with_bit i j false) 256) bit_cleared_below n k hn hk)

-- the I/O space with one byte more stored as it is
pub io_byte_set : (io : IoState) (a byte : ℕ) → IsShapedIo io → byte < 256 → IsShapedIo (record io { bytes = set io.bytes a byte })
io_byte_set io a byte shaped small = record {
  io_length = length-set io.bytes a byte ∙ shaped.io_length;
  io_bytes = All-set IsByte io.bytes a byte small shaped.io_bytes;
  cycles_fit = shaped.cycles_fit;
}

-- the shape does not speak of output writes
pub io_outputs : (io other : IoState) → IsShapedIo io → io.bytes ≡ other.bytes → io.cycles ≡ other.cycles → IsShapedIo other
io_outputs io other shaped e c = record {
  io_length = sym (ap length e) ∙ shaped.io_length;
  io_bytes = subst (All IsByte) e shaped.io_bytes;
  cycles_fit = subst (λ (k : ℕ). k < 2 ^ 64) c shaped.cycles_fit;
}

pub kept_byte-below : (io : IoState) (a : ℕ) → IsShapedIo io → kept_byte io a < 256
kept_byte-below io a shaped = byte_at io.bytes a shaped.io_bytes

pub load_io-below : (a : ℕ) (io : IoState) → IsShapedIo io → load_io a io < 256
load_io-below a io shaped =
    chosen IsByte (is_pin a) _ _ (kept_byte-below io (a + 2) shaped)
    (chosen IsByte (a == ucsra) _ _ (omega arith)
    (chosen IsByte (a == eecr) _ _ (omega arith)
    (chosen IsByte (a == tifr) _ _ (flags_small (kept_byte io tifr) (kept_byte-below io tifr shaped)) (kept_byte-below io a shaped))))
  where
    flags_small : (n : ℕ) → n < 256 → bit_and n tifr_flags < 256
    flags_small n h = omega (arith, and_le_l n tifr_flags)

pub stored_byte-below : (a byte : ℕ) (io : IoState) → IsShapedIo io → byte < 256 → stored_byte a byte io < 256
stored_byte-below a byte io shaped small =
    chosen IsByte (is_read_only a) _ _ (kept_byte-below io a shaped)
    (chosen IsByte (a == tifr) _ _ (cleared_small (kept_byte io tifr) (kept_byte-below io tifr shaped)) small)
  where
    cleared_small : (n : ℕ) → n < 256 → bit_and n (255 - byte) < 256
    cleared_small n h = omega (arith, and_le_l n (255 - byte))

pub store_io-shaped : (a byte : ℕ) (io : IoState) → IsShapedIo io → byte < 256 → IsShapedIo (store_io a byte io)
store_io-shaped a byte io shaped small =
    let set_one = io_byte_set io a (stored_byte a byte io) shaped (stored_byte-below a byte io shaped small) in
    record { io_length = set_one.io_length; io_bytes = set_one.io_bytes; cycles_fit = set_one.cycles_fit }

-- a timer whose flags are bits of TIFR
pub record IsTimer (timer : Timer) : Type 0 where
  overflow_fits : timer.overflow_flag < 8
  compare_fits : timer.compare_flag < 8

next_count-below : (timer : Timer) (io : IoState) → next_count timer io < 256
next_count-below timer io =
    chosen IsByte (clears_on_compare timer io && (kept_byte io timer.counter == kept_byte io timer.compare)) 0
    ((kept_byte io timer.counter + 1) % 256)
    (omega arith) (mod-lt (kept_byte io timer.counter + 1) (omega arith))

next_flags-below : (timer : Timer) (io : IoState) → IsTimer timer → IsShapedIo io → next_flags timer io < 256
next_flags-below timer io is shaped =
    let flags = kept_byte io tifr in
    let small : flags < 256 = kept_byte-below io tifr shaped in
    let overflowed = cond (kept_byte io timer.counter == 255) (with_bit flags timer.overflow_flag true) flags in
    let overflowed_small : overflowed < 256 =
    chosen IsByte (kept_byte io timer.counter == 255) _ _ (with_bit-below flags timer.overflow_flag true small is.overflow_fits) small in
    chosen IsByte (next_count timer io == kept_byte io timer.compare) _ _
    (with_bit-below overflowed timer.compare_flag true overflowed_small is.compare_fits) overflowed_small

counted-shaped : (timer : Timer) (io : IoState) → IsTimer timer → IsShapedIo io → IsShapedIo (counted timer io)
counted-shaped timer io is shaped =
    let one = io_byte_set io timer.counter (next_count timer io) shaped (next_count-below timer io) in
    io_byte_set (record io { bytes = set io.bytes timer.counter (next_count timer io) }) tifr (next_flags timer io) one
    (next_flags-below timer io is shaped)

clocked-shaped : (timer : Timer) (io : IoState) → IsTimer timer → IsShapedIo io → IsShapedIo (clocked timer io)
clocked-shaped timer io is shaped = subst IsShapedIo (sym (clocked-is timer io))
    (chosen IsShapedIo (counts_now timer io) (counted timer io) io (counted-shaped timer io is shaped) shaped)

tick-shaped : (io : IoState) → IsShapedIo io → IsShapedIo (tick io)
tick-shaped io shaped =
    let cycled : IsShapedIo (one_cycle io) = record {
      io_length = shaped.io_length;
      io_bytes = shaped.io_bytes;
      cycles_fit = mod-lt (io.cycles + 1) (omega arith);
    } in
    subst IsShapedIo (sym (tick-is io))
    (clocked-shaped timer2 (clocked timer0 (one_cycle io)) (record { overflow_fits = omega arith; compare_fits = omega arith })
    (clocked-shaped timer0 (one_cycle io) (record { overflow_fits = omega arith; compare_fits = omega arith }) cycled))

pub ticks-shaped : (n : ℕ) (io : IoState) → IsShapedIo io → IsShapedIo (ticks n io)
ticks-shaped zero io shaped = shaped
ticks-shaped (suc n) io shaped = ticks-shaped n (tick io) (tick-shaped io shaped)

-- ---- the state

module _ (part : Chip) where
  pub reg-below : (p : Machine) (n : ℕ) → IsShaped part p → reg p n < 256
  reg-below p n shaped = byte_at p.registers n shaped.registers_bytes

  -- the state with other registers, another I/O space, other SRAM, or another pc
  pub registers_set : (p : Machine) (xs : List ℕ) → IsShaped part p → length xs ≡ length p.registers → All IsByte xs →
      IsShaped part (record p { registers = xs })
  registers_set p xs shaped same bytes = record {
    pc_in_flash = shaped.pc_in_flash;
    registers_length = same ∙ shaped.registers_length;
    registers_bytes = bytes;
    io = shaped.io;
    sram_length = shaped.sram_length;
    sram_all_bytes = shaped.sram_all_bytes;
    steps_fit = shaped.steps_fit;
  }

  pub io_set : (p : Machine) (io : IoState) → IsShaped part p → IsShapedIo io → IsShaped part (record p { io = io })
  io_set p io shaped io_shaped = record {
    pc_in_flash = shaped.pc_in_flash;
    registers_length = shaped.registers_length;
    registers_bytes = shaped.registers_bytes;
    io = io_shaped;
    sram_length = shaped.sram_length;
    sram_all_bytes = shaped.sram_all_bytes;
    steps_fit = shaped.steps_fit;
  }

  pub pc_set : (p : Machine) (pc : ℕ) → IsShaped part p → pc < words_of part → IsShaped part (record p { pc = pc })
  pc_set p pc shaped fits = record {
    pc_in_flash = fits;
    registers_length = shaped.registers_length;
    registers_bytes = shaped.registers_bytes;
    io = shaped.io;
    sram_length = shaped.sram_length;
    sram_all_bytes = shaped.sram_all_bytes;
    steps_fit = shaped.steps_fit;
  }

  pub hold_set : (p : Machine) (hold : Bool) → IsShaped part p → IsShaped part (record p { hold = hold })
  hold_set p hold shaped = record {
    pc_in_flash = shaped.pc_in_flash;
    registers_length = shaped.registers_length;
    registers_bytes = shaped.registers_bytes;
    io = shaped.io;
    sram_length = shaped.sram_length;
    sram_all_bytes = shaped.sram_all_bytes;
    steps_fit = shaped.steps_fit;
  }

  pub with_reg-shaped : (n byte : ℕ) (p : Machine) → IsShaped part p → byte < 256 → IsShaped part (with_reg n byte p)
  with_reg-shaped n byte p shaped small =
      registers_set p (set p.registers n byte) shaped (length-set p.registers n byte)
      (All-set IsByte p.registers n byte small shaped.registers_bytes)

  pub with_pair-shaped : (n word : ℕ) (p : Machine) → IsShaped part p → IsShaped part (with_pair n word p)
  with_pair-shaped n word p shaped =
      with_reg-shaped (n + 1) (high word) (with_reg n (low word) p) (with_reg-shaped n (low word) p shaped (low-below word))
      (high-below word)

  pub with_io_byte-shaped : (a byte : ℕ) (p : Machine) → IsShaped part p → byte < 256 → IsShaped part (with_io_byte a byte p)
  with_io_byte-shaped a byte p shaped small =
      io_set p (record p.io { bytes = set p.io.bytes a byte }) shaped (io_byte_set p.io a byte shaped.io small)

  pub with_flags-shaped : (f : Flags) (p : Machine) → IsShaped part p → IsShaped part (with_flags f p)
  with_flags-shaped f p shaped = with_io_byte-shaped sreg (byte_of f) p shaped (byte_of-below f)

  pub with_flag-shaped : (s : ℕ) (wanted : Bool) (p : Machine) → IsShaped part p → s < 8 → IsShaped part (with_flag s wanted p)
  with_flag-shaped s wanted p shaped small =
      with_io_byte-shaped sreg (with_bit (kept_byte p.io sreg) s wanted) p shaped
      (with_bit-below (kept_byte p.io sreg) s wanted (kept_byte-below p.io sreg shaped.io) small)

  pub with_sp-shaped : (address : ℕ) (p : Machine) → IsShaped part p → IsShaped part (with_sp address p)
  with_sp-shaped address p shaped =
      with_io_byte-shaped 0x3e (high address) (with_io_byte 0x3d (low address) p)
      (with_io_byte-shaped 0x3d (low address) p shaped (low-below address)) (high-below address)

  pub load-below : (address : ℕ) (p : Machine) → IsShaped part p → load part address p < 256
  load-below address p shaped =
      chosen IsByte (nat_lt address io_start_address) _ _ (reg-below p address shaped)
      (chosen IsByte (nat_lt address 0x60) _ _ (load_io-below (address - io_start_address) p.io shaped.io)
      (chosen IsByte (nat_lt address part.sram_end) _ _ (byte_at p.sram (address - 0x60) shaped.sram_all_bytes) (omega arith)))

  pub store-shaped : (address byte : ℕ) (p : Machine) → IsShaped part p → byte < 256 → IsShaped part (store part address byte p)
  store-shaped address byte p shaped small =
      let SameLength : List ℕ → List ℕ → Type 0 = λ xs ys. length ys ≡ length xs in
      let regs = set p.registers address byte in
      let ram = set p.sram (address - 0x60) byte in
      let is_reg = nat_lt address io_start_address in
      let is_io = nat_lt address 0x60 in
      let is_ram = nat_lt address part.sram_end in
      let regs_bytes : All IsByte regs = All-set IsByte p.registers address byte small shaped.registers_bytes in
      let ram_bytes : All IsByte ram = All-set IsByte p.sram (address - 0x60) byte small shaped.sram_all_bytes in
      record {
        pc_in_flash = shaped.pc_in_flash;
        registers_length = chosen (SameLength p.registers) is_reg regs p.registers (length-set p.registers address byte) refl ∙
            shaped.registers_length;
        registers_bytes = chosen (All IsByte) is_reg regs p.registers regs_bytes shaped.registers_bytes;
        io = chosen IsShapedIo is_reg _ _ shaped.io
            (chosen IsShapedIo is_io _ _ (store_io-shaped (address - io_start_address) byte p.io shaped.io small) shaped.io);
        sram_length = chosen (SameLength p.sram) is_io _ _ refl
            (chosen (SameLength p.sram) is_ram ram p.sram (length-set p.sram (address - 0x60) byte) refl) ∙ shaped.sram_length;
        sram_all_bytes = chosen (All IsByte) is_io _ _ shaped.sram_all_bytes
            (chosen (All IsByte) is_ram ram p.sram ram_bytes shaped.sram_all_bytes);
        steps_fit = shaped.steps_fit;
      }
