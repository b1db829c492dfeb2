-- The flag of an interrupt may be cleared before pc is pushed: a store to TIFR only clears flags.
use Rattle.std.proofs.Common.{◌≡◌, ℕ, ◌+◌, ◌-◌, ◌*◌, ◌%◌, ◌^◌, ◌<◌, ◌≢◌, ◌==◌, nat_lt, Bool, true, false, cond, List, get_or, set, length, bit_and, refl, sym, ap, ◌∙◌, subst, arith, eqb-true}
use Rattle.std.proofs.lemmas.List.{get_or-set_other, get_or-set_same, set_comm, set-set}
use Rattle.std.proofs.lemmas.Nat.{and_assoc, and_comm, and_le_l}
use Rattle.part_spec.specs.Chip.{Chip}
use Rattle.avr_spec.specs.declared.target.Vector.{Vector}
use Rattle.avr_spec.specs.declared.target.Vector.TheVariants.{Comp2}
use Rattle.avr_spec.specs.Bytes.{low, high, with_bit}
use Rattle.avr_spec.specs.IoSpace.{IoState, kept_byte, stored_byte, store_io, is_read_only, tifr, sreg, spl, sph}
use Rattle.avr_spec.specs.Interrupts.{address_of, flag_of, take_flag}
use Rattle.avr_spec.specs.Machine.{Machine, IsShapedIo, sram_start}
use Rattle.avr_spec.specs.Memory.{with_io_byte, with_flag, with_sp, sp, minus, store, pushed_pc, io_start_address}
use Rattle.avr_spec.specs.Step.{entered}
use Rattle.avr_spec.proofs.ShapeLemmas.{chosen, kept_byte-below, store_io-shaped, low-below}
use Rattle.avr_io.proofs.BitLemmas.{and-clears_bit}

-- the state with the flag of an interrupt cleared
abbrev pub taking : Vector → Machine → Machine
taking v p = record p { io = take_flag v p.io }

-- the mask that clears a flag
abbrev mask : Vector → ℕ
mask v = 255 - 1 * 2 ^ flag_of v % 256

flag-below : (v : Vector) → flag_of v < 8
flag-below Comp2 = omega arith
flag-below _ = omega arith

-- clearing a flag of a byte and masking it, in both orders
clear_and : (t m : ℕ) (v : Vector) → t < 256 → bit_and (with_bit t (flag_of v) false) m ≡ with_bit (bit_and t m) (flag_of v) false
clear_and t m v small =
    let masked : bit_and t m < 256 = omega (arith, and_le_l t m) in
    ap (λ (n : ℕ). bit_and n m) (sym (and-clears_bit t (flag_of v) small (flag-below v))) ∙
    and_assoc m t (mask v) ∙ ap (λ (n : ℕ). bit_and t n) (and_comm (mask v) m) ∙ sym (and_assoc (mask v) t m) ∙
    and-clears_bit (bit_and t m) (flag_of v) masked (flag-below v)

-- the byte that is kept at another address than TIFR's
other_byte : (v : Vector) (io : IoState) (a : ℕ) → a ≢ tifr → kept_byte (take_flag v io) a ≡ kept_byte io a
other_byte v io a other = get_or-set_other io.bytes tifr a (with_bit (kept_byte io tifr) (flag_of v) false) 0 other

-- a byte put at another address than TIFR's
taking-byte : (v : Vector) (io : IoState) (a byte : ℕ) → a ≢ tifr →
    record (take_flag v io) { bytes = set (take_flag v io).bytes a byte } ≡ take_flag v (record io { bytes = set io.bytes a byte })
taking-byte v io a byte other =
    let cleared = with_bit (kept_byte io tifr) (flag_of v) false in
    let kept : get_or (set io.bytes a byte) tifr 0 ≡ kept_byte io tifr = get_or-set_other io.bytes a tifr byte 0 (λ e. other (sym e)) in
    ap (λ (bytes : List ℕ). record io { bytes = bytes }) (set_comm io.bytes tifr a cleared byte (λ e. other (sym e))) ∙
    ap (λ (n : ℕ). record io { bytes = set (set io.bytes a byte) tifr (with_bit n (flag_of v) false) }) (sym kept)

-- a store at TIFR
taking-tifr : (v : Vector) (io : IoState) (byte : ℕ) → IsShapedIo io → store_io tifr byte (take_flag v io) ≡ take_flag v (store_io tifr byte io)
taking-tifr v io byte shaped =
    let t = kept_byte io tifr in
    let m = 255 - byte in
    let cleared = with_bit t (flag_of v) false in
    let inside : tifr < length io.bytes = omega (arith, shaped.io_length) in
    let left : kept_byte (take_flag v io) tifr ≡ cleared = get_or-set_same io.bytes tifr cleared 0 inside in
    let right : get_or (set io.bytes tifr (bit_and t m)) tifr 0 ≡ bit_and t m = get_or-set_same io.bytes tifr (bit_and t m) 0 inside in
    let with_tifr = λ (n : ℕ). record io { bytes = set io.bytes tifr n } in
    ap (λ (bytes : List ℕ). record io { bytes = bytes }) (set-set io.bytes tifr cleared (bit_and (kept_byte (take_flag v io) tifr) m)) ∙
    ap (λ (n : ℕ). with_tifr (bit_and n m)) left ∙
    ap with_tifr (clear_and t m v (kept_byte-below io tifr shaped)) ∙
    ap (λ (n : ℕ). with_tifr (with_bit n (flag_of v) false)) (sym right) ∙
    ap (λ (bytes : List ℕ). record io { bytes = bytes })
    (sym (set-set io.bytes tifr (bit_and t m) (with_bit (get_or (set io.bytes tifr (bit_and t m)) tifr 0) (flag_of v) false)))

-- a store at another address
taking-other : (v : Vector) (io : IoState) (a byte : ℕ) → (a == tifr) ≡ false → a ≢ tifr →
    store_io a byte (take_flag v io) ≡ take_flag v (store_io a byte io)
taking-other v io a byte apart other =
    let outputs = (store_io a byte io).outputs in
    let plain : (b : Bool) (x : ℕ) → b ≡ false → cond b x byte ≡ byte = λ b x e. ap (λ (c : Bool). cond c x byte) e in
    let stored : stored_byte a byte (take_flag v io) ≡ stored_byte a byte io =
    ap (λ (n : ℕ). cond (is_read_only a) n (cond (a == tifr) (bit_and (kept_byte (take_flag v io) tifr) (255 - byte)) byte)) (other_byte v io a other) ∙
    ap (λ (n : ℕ). cond (is_read_only a) (kept_byte io a) n) (plain (a == tifr) _ apart ∙ sym (plain (a == tifr) _ apart)) in
    ap (λ (n : ℕ). record (take_flag v io) { bytes = set (take_flag v io).bytes a n; outputs = outputs }) stored ∙
    ap (λ (after : IoState). record after { outputs = outputs }) (taking-byte v io a (stored_byte a byte io) other)

taking-store_io : (v : Vector) (io : IoState) (a byte : ℕ) → IsShapedIo io → store_io a byte (take_flag v io) ≡ take_flag v (store_io a byte io)
taking-store_io v io a byte shaped = by_address (a == tifr) refl
  where
    by_address : (b : Bool) → (a == tifr) ≡ b → store_io a byte (take_flag v io) ≡ take_flag v (store_io a byte io)
    by_address true e =
        subst (λ (n : ℕ). store_io n byte (take_flag v io) ≡ take_flag v (store_io n byte io)) (sym (eqb-true a tifr e)) (taking-tifr v io byte shaped)
    by_address false e =
        taking-other v io a byte e (λ same. let clash : false ≡ true = sym e ∙ ap (λ (n : ℕ). n == tifr) same in cc)

module _ (part : Chip) where
  -- a store at a data address
  taking-store : (v : Vector) (p : Machine) (address byte : ℕ) → IsShapedIo p.io → store part address byte (taking v p) ≡ taking v (store part address byte p)
  taking-store v p address byte shaped =
      ap (λ (io : IoState). record (store part address byte p) { io = io }) (by_place (nat_lt address io_start_address) (nat_lt address sram_start))
    where
      by_place : (register io : Bool) →
          cond register (take_flag v p.io) (cond io (store_io (address - io_start_address) byte (take_flag v p.io)) (take_flag v p.io))
          ≡ take_flag v (cond register p.io (cond io (store_io (address - io_start_address) byte p.io) p.io))
      by_place true io = refl
      by_place false true = taking-store_io v p.io (address - io_start_address) byte shaped
      by_place false false = refl

  store-shaped_io : (p : Machine) (address byte : ℕ) → IsShapedIo p.io → byte < 256 → IsShapedIo (store part address byte p).io
  store-shaped_io p address byte shaped small =
      chosen IsShapedIo (nat_lt address io_start_address) _ _ shaped
      (chosen IsShapedIo (nat_lt address sram_start) _ _ (store_io-shaped (address - io_start_address) byte p.io shaped small) shaped)

  -- the stack pointer
  taking-sp : (v : Vector) (p : Machine) → sp (taking v p) ≡ sp p
  taking-sp v p =
      ap (λ (n : ℕ). n + 256 * kept_byte (take_flag v p.io) sph) (other_byte v p.io spl (λ e. absurd (omega arith))) ∙
      ap (λ (n : ℕ). kept_byte p.io spl + 256 * n) (other_byte v p.io sph (λ e. absurd (omega arith)))

  taking-with_sp : (v : Vector) (p : Machine) (address : ℕ) → with_sp address (taking v p) ≡ taking v (with_sp address p)
  taking-with_sp v p address =
      let lower : IoState = record p.io { bytes = set p.io.bytes spl (low address) } in
      ap (λ (io : IoState). record p { io = record io { bytes = set io.bytes sph (high address) } })
      (taking-byte v p.io spl (low address) (λ e. absurd (omega arith))) ∙
      ap (λ (io : IoState). record p { io = io }) (taking-byte v lower sph (high address) (λ e. absurd (omega arith)))

  taking-flag : (v : Vector) (p : Machine) → with_flag 7 false (taking v p) ≡ taking v (with_flag 7 false p)
  taking-flag v p =
      let other : sreg ≢ tifr = λ e. absurd (omega arith) in
      ap (λ (n : ℕ). with_io_byte sreg (with_bit n 7 false) (taking v p)) (other_byte v p.io sreg other) ∙
      ap (λ (io : IoState). record p { io = io }) (taking-byte v p.io sreg (with_bit (kept_byte p.io sreg) 7 false) other)

  taking-pushed_pc : (v : Vector) (p : Machine) → IsShapedIo p.io → pushed_pc part (taking v p) ≡ taking v (pushed_pc part p)
  taking-pushed_pc v p shaped =
      let top = sp p in
      let one = store part top (low p.pc) p in
      ap (λ (s : ℕ). with_sp (minus s 2) (store part (minus s 1) (high p.pc) (store part s (low p.pc) (taking v p)))) (taking-sp v p) ∙
      ap (λ (q : Machine). with_sp (minus top 2) (store part (minus top 1) (high p.pc) q)) (taking-store v p top (low p.pc) shaped) ∙
      ap (λ (q : Machine). with_sp (minus top 2) q)
      (taking-store v one (minus top 1) (high p.pc) (store-shaped_io p top (low p.pc) shaped (low-below p.pc))) ∙
      taking-with_sp v (store part (minus top 1) (high p.pc) one) (minus top 2)

  -- an interrupt entered with its flag cleared first
  pub entered-is : (v : Vector) (p : Machine) → IsShapedIo p.io →
      record (with_flag 7 false (pushed_pc part (taking v p))) { pc = address_of part v; hold = false } ≡ entered part v p
  entered-is v p shaped =
      ap (λ (q : Machine). record (with_flag 7 false q) { pc = address_of part v; hold = false }) (taking-pushed_pc v p shaped) ∙
      ap (λ (q : Machine). record q { pc = address_of part v; hold = false }) (taking-flag v (pushed_pc part p))
