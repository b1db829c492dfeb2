-- Loads and stores of SRAM and behind it, by where an address lies.
use Rattle.std.proofs.Common.{◌≡◌, ℕ, ◌-◌, ◌<◌, ◌≤◌, nat_lt, Bool, true, false, cond, slice_index, slice_set, ap, ◌∙◌, arith}
use Rattle.std.proofs.lemmas.Bool.Decides.{nat_tests}
use Rattle.part_spec.specs.Chip.{Chip}
use Rattle.avr_spec.specs.IoSpace.{load_io, store_io}
use Rattle.avr_spec.specs.Machine.{Machine, sram_start}
use Rattle.avr_spec.specs.Memory.{reg, load, store, io_start_address}

-- a load and a store, told whether the address is below the I/O space, below SRAM, and below its end
abbrev loaded : ℕ → Machine → Bool → Bool → Bool → ℕ
loaded address p register io sram =
    cond register (reg p address)
    (cond io (load_io (address - io_start_address) p.io) (cond sram (slice_index p.sram (address - sram_start)) 0))

abbrev stored : ℕ → ℕ → Machine → Bool → Bool → Bool → Machine
stored address byte p register io sram = record p {
  registers = cond register (slice_set p.registers address byte) p.registers;
  io = cond register p.io (cond io (store_io (address - io_start_address) byte p.io) p.io);
  sram = cond io p.sram (cond sram (slice_set p.sram (address - sram_start) byte) p.sram);
}

module _ (part : Chip) (address : ℕ) (p : Machine) (high : sram_start ≤ address) where
  no_register : nat_lt address io_start_address ≡ false
  no_register = grind (arith, nat_tests)

  no_io : nat_lt address sram_start ≡ false
  no_io = grind (arith, nat_tests)

  pub load-sram : address < part.sram_end → load part address p ≡ slice_index p.sram (address - sram_start)
  load-sram inside =
      let in_sram : nat_lt address part.sram_end ≡ true = grind (arith, nat_tests) in
      ap (λ (b : Bool). loaded address p b (nat_lt address sram_start) (nat_lt address part.sram_end)) no_register ∙
      ap (λ (b : Bool). loaded address p false b (nat_lt address part.sram_end)) no_io ∙
      ap (λ (b : Bool). loaded address p false false b) in_sram

  pub load-behind : part.sram_end ≤ address → load part address p ≡ 0
  load-behind behind =
      let not_in_sram : nat_lt address part.sram_end ≡ false = grind (arith, nat_tests) in
      ap (λ (b : Bool). loaded address p b (nat_lt address sram_start) (nat_lt address part.sram_end)) no_register ∙
      ap (λ (b : Bool). loaded address p false b (nat_lt address part.sram_end)) no_io ∙
      ap (λ (b : Bool). loaded address p false false b) not_in_sram

  pub store-sram : (byte : ℕ) → address < part.sram_end →
      store part address byte p ≡ record p { sram = slice_set p.sram (address - sram_start) byte }
  store-sram byte inside =
      let in_sram : nat_lt address part.sram_end ≡ true = grind (arith, nat_tests) in
      ap (λ (b : Bool). stored address byte p b (nat_lt address sram_start) (nat_lt address part.sram_end)) no_register ∙
      ap (λ (b : Bool). stored address byte p false b (nat_lt address part.sram_end)) no_io ∙
      ap (λ (b : Bool). stored address byte p false false b) in_sram

  pub store-behind : (byte : ℕ) → part.sram_end ≤ address → store part address byte p ≡ p
  store-behind byte behind =
      let not_in_sram : nat_lt address part.sram_end ≡ false = grind (arith, nat_tests) in
      ap (λ (b : Bool). stored address byte p b (nat_lt address sram_start) (nat_lt address part.sram_end)) no_register ∙
      ap (λ (b : Bool). stored address byte p false b (nat_lt address part.sram_end)) no_io ∙
      ap (λ (b : Bool). stored address byte p false false b) not_in_sram
