-- Each instruction, and so a step, keeps the shape of the state.
use Rattle.std.proofs.Common.{◌≡◌, ℕ, ◌+◌, ◌-◌, ◌*◌, ◌/◌, ◌%◌, ◌<◌, ◌==◌, Bool, true, false, not, cond, List, map, ◌⊎◌, inl, inr, Option}
use Rattle.std.proofs.Common.{Some, None, bit_and, bit_or, bit_xor, refl, sym, subst, arith}
use Rattle.std.specs.Prelude.{⊤}
use Rattle.std.proofs.lemmas.Nat.{and_le_l, or_lt, xor_lt}
use Rattle.std.proofs.Math.Nat.{mod-lt}
use Rattle.part_spec.specs.Chip.{Chip, words_of}
use Rattle.avr_spec.specs.declared.instruction.Instr.{Instr}
use Rattle.avr_spec.specs.declared.instruction.Instr.TheVariants.{Nop, Movw, Muls, Mulsu, Fmul, Fmuls, Fmulsu, Cpc, Sbc, Add, Cpse, Cp, Sub}
use Rattle.avr_spec.specs.declared.instruction.Instr.TheVariants.{Adc, And, Eor, Or, Mov, Cpi, Sbci, Subi, Ori, Andi, Ldi, LddY, LddZ, StdY}
use Rattle.avr_spec.specs.declared.instruction.Instr.TheVariants.{StdZ, Lds, LdZInc, LdZDec, LpmZ, LpmZInc, LdYInc, LdYDec, LdX, LdXInc}
use Rattle.avr_spec.specs.declared.instruction.Instr.TheVariants.{LdXDec, Pop, Sts, StZInc, StZDec, StYInc, StYDec, StX, StXInc, StXDec}
use Rattle.avr_spec.specs.declared.instruction.Instr.TheVariants.{Push, Com, Neg, Swap, Inc, Asr, Lsr, Ror, Dec, Bset, Bclr, Ijmp, Icall}
use Rattle.avr_spec.specs.declared.instruction.Instr.TheVariants.{Ret, Reti, Sleep, Wdr, Break, LpmR0, Spm, Jmp, Call, Adiw, Sbiw, Cbi}
use Rattle.avr_spec.specs.declared.instruction.Instr.TheVariants.{Sbic, Sbi, Sbis, Mul, In, Out, Rjmp, Rcall, Brbs, Brbc, Bld, Bst, Sbrc}
use Rattle.avr_spec.specs.declared.instruction.Instr.TheVariants.{Sbrs, Undefined}
use Rattle.avr_spec.specs.declared.target.Vector.{Vector}
use Rattle.avr_spec.specs.declared.target.Vector.TheVariants.{Comp2}
use Rattle.avr_spec.specs.declared.target.Ahead.{Ahead}
use Rattle.avr_spec.specs.declared.target.Ahead.TheVariants.{Interrupt, Ready, Break as BreakAhead, Undefined as UndefinedAhead}
use Rattle.avr_spec.specs.Bytes.{has_bit, with_bit, bit, low, high}
use Rattle.avr_spec.specs.Sreg.{Flags}
use Rattle.avr_spec.specs.Flags.{AluResult, add_of, adc_of, sub_of, sbc_of, neg_of, and_of, or_of, eor_of, com_of, inc_of, dec_of, lsr_of}
use Rattle.avr_spec.specs.Flags.{asr_of, ror_of, adiw_of, sbiw_of, mul_of, muls_of, mulsu_of, fmul_of, fmuls_of, fmulsu_of}
use Rattle.avr_spec.specs.IoSpace.{kept_byte, load_io, store_io, tifr}
use Rattle.avr_spec.specs.Interrupts.{address_of, flag_of, take_flag}
use Rattle.avr_spec.specs.Machine.{Machine, IsShaped}
use Rattle.avr_spec.specs.Memory.{reg, with_reg, pair, with_pair, pointer_x, pointer_y, pointer_z, plus, minus, flags, with_flag}
use Rattle.avr_spec.specs.Memory.{with_result, with_word_result, with_comparison, has_flag, load, store, with_loaded, load_then_add}
use Rattle.avr_spec.specs.Memory.{subtract_then_load, store_then_add, subtract_then_store, sp, with_sp, pushed, popped, pushed_pc}
use Rattle.avr_spec.specs.Memory.{popped_pc}
use Rattle.avr_spec.specs.Effect.{Effect, Acts, Skips, Reads_flash, At_break, At_undefined, effect, with_pc, moved, branch, called, swapped}
use Rattle.avr_spec.specs.Effect.{with_io}
use Rattle.avr_spec.specs.Fields.{FieldsFit}
use Rattle.avr_spec.specs.Decode.{decode, words}
use Rattle.avr_spec.specs.Step.{word_at, flash_byte, behind, instr_at, words_at, advanced, ended, due, entered, taken, finished}
use Rattle.avr_spec.specs.Step.{effect_here, executed, step, ahead, go_by}
use Rattle.avr_spec.specs.Laws.{IsChip, StepKeepsShape, GoKeepsShape, HasRow, HasNone}
use Rattle.avr_spec.proofs.ShapeLemmas.{chosen, low-below, high-below, with_bit-below, load_io-below, kept_byte-below, store_io-shaped}
use Rattle.avr_spec.proofs.ShapeLemmas.{io_byte_set, ticks-shaped, reg-below, io_set, pc_set, hold_set, with_reg-shaped, with_pair-shaped}
use Rattle.avr_spec.proofs.ShapeLemmas.{with_flags-shaped, with_flag-shaped, with_sp-shaped, load-below, store-shaped}
use Rattle.avr_spec.specs.Table.{table}
use Rattle.avr_spec.proofs.RowLemmas.{each_word_decodes, told_by_first}
use Rattle.avr_spec.proofs.FieldLemmas.{row_fits}
use Rattle.avr_spec.proofs.StepLemmas.{step_by, step-is, go-is}

-- an effect keeps the shape
abbrev pub IsShapedEffect : Chip → Effect → Type 0
IsShapedEffect part (Acts cycles after) = IsShaped part after
IsShapedEffect part (Skips over) = ⊤
IsShapedEffect part (Reads_flash cycles address after) = (byte : ℕ) → byte < 256 → IsShaped part (after byte)
IsShapedEffect part At_break = ⊤
IsShapedEffect part At_undefined = ⊤

-- the field whose range the shape rests on, and the numbers below it: an immediate byte that is stored, or the number of a bit
abbrev needed : Instr → ℕ × ℕ
needed (Ori d k) = (k, 256)
needed (Ldi d k) = (k, 256)
needed (Bset s) = (s, 8)
needed (Bclr s) = (s, 8)
needed (Cbi a b) = (b, 8)
needed (Sbi a b) = (b, 8)
needed (Bld d b) = (b, 8)
needed _ = (0, 1)

fits_needed : (instr : Instr) → FieldsFit instr → (needed instr).0 < (needed instr).1
fits_needed (Ori d k) fit = fit.1
fits_needed (Ldi d k) fit = fit.1
fits_needed (Bset s) fit = fit
fits_needed (Bclr s) fit = fit
fits_needed (Cbi a b) fit = fit.1
fits_needed (Sbi a b) fit = fit.1
fits_needed (Bld d b) fit = fit.1
fits_needed _ fit = omega arith

needed_told : (fields : ℕ → ℕ) (second : ℕ) →
    map (λ row. needed (row.instr fields second)) table ≡ map (λ row. needed (row.instr fields 0)) table
needed_told fields second = refl

-- that field of a decoded instruction is in its range
decoded_needed : (first second : ℕ) → (needed (decode first second)).0 < (needed (decode first second)).1
decoded_needed first second =
    subst (λ (r : ℕ × ℕ). r.0 < r.1) (sym (told_by_first needed needed_told first second)) (by_row (each_word_decodes first))
  where
    by_row : HasRow first ⊎ HasNone first → (needed (decode first 0)).0 < (needed (decode first 0)).1
    by_row (inl h) = fits_needed (decode first 0) (row_fits first 0 h (omega arith))
    by_row (inr h) = subst (λ (i : Instr). (needed i).0 < (needed i).1) (sym (h.undefined 0)) (omega arith)

-- a vector's flag is a bit of TIFR
flag-below : (v : Vector) → flag_of v < 8
flag-below Comp2 = omega arith
flag-below _ = omega arith

module _ (part : Chip) (is_part : IsChip part) (p : Machine) (shaped : IsShaped part p) where
  in_flash : (n : ℕ) → n % words_of part < words_of part
  in_flash n = mod-lt n is_part.has_flash

  -- a result in a register, in a pair, and flags alone
  result_shaped : (d : ℕ) (operation : Flags → AluResult) → (operation (flags p)).value < 256 → IsShaped part (with_result d operation p)
  result_shaped d operation small =
      with_flags-shaped part (operation (flags p)).flags (with_reg d (operation (flags p)).value p)
      (with_reg-shaped part d (operation (flags p)).value p shaped small)

  word_result_shaped : (d : ℕ) (operation : Flags → AluResult) → IsShaped part (with_word_result d operation p)
  word_result_shaped d operation =
      with_flags-shaped part (operation (flags p)).flags (with_pair d (operation (flags p)).value p)
      (with_pair-shaped part d (operation (flags p)).value p shaped)

  comparison_shaped : (operation : Flags → AluResult) → IsShaped part (with_comparison operation p)
  comparison_shaped operation = with_flags-shaped part (operation (flags p)).flags p shaped

  r-below : (n : ℕ) → reg p n < 256
  r-below n = reg-below part p n shaped

  loaded_shaped : (d address : ℕ) → IsShaped part (with_loaded part d address p)
  loaded_shaped d address = with_reg-shaped part d (load part address p) p shaped (load-below part address p shaped)

  load_then_add_shaped : (d pointer : ℕ) → IsShaped part (load_then_add part d pointer p)
  load_then_add_shaped d pointer =
      with_reg-shaped part d (load part (pair p pointer) p) (with_pair pointer (plus (pair p pointer) 1) p)
      (with_pair-shaped part pointer (plus (pair p pointer) 1) p shaped) (load-below part (pair p pointer) p shaped)

  subtract_then_load_shaped : (d pointer : ℕ) → IsShaped part (subtract_then_load part d pointer p)
  subtract_then_load_shaped d pointer =
      let address = minus (pair p pointer) 1 in
      let moved_shaped : IsShaped part (with_pair pointer address p) = with_pair-shaped part pointer address p shaped in
      with_reg-shaped part d (load part address (with_pair pointer address p)) (with_pair pointer address p) moved_shaped
      (load-below part address (with_pair pointer address p) moved_shaped)

  store_then_add_shaped : (r pointer : ℕ) → IsShaped part (store_then_add part r pointer p)
  store_then_add_shaped r pointer =
      let address = pair p pointer in
      with_pair-shaped part pointer (plus address 1) (store part address (reg p r) p)
      (store-shaped part address (reg p r) p shaped (r-below r))

  subtract_then_store_shaped : (r pointer : ℕ) → IsShaped part (subtract_then_store part r pointer p)
  subtract_then_store_shaped r pointer =
      let address = minus (pair p pointer) 1 in
      store-shaped part address (reg p r) (with_pair pointer address p) (with_pair-shaped part pointer address p shaped) (r-below r)

  stored_shaped : (address r : ℕ) → IsShaped part (store part address (reg p r) p)
  stored_shaped address r = store-shaped part address (reg p r) p shaped (r-below r)

  pushed_shaped : (r : ℕ) → IsShaped part (pushed part (reg p r) p)
  pushed_shaped r = with_sp-shaped part (minus (sp p) 1) (store part (sp p) (reg p r) p) (stored_shaped (sp p) r)

  popped_shaped : (d : ℕ) → IsShaped part (popped part d p)
  popped_shaped d =
      let address = plus (sp p) 1 in
      let risen : IsShaped part (with_sp address p) = with_sp-shaped part address p shaped in
      with_reg-shaped part d (load part address (with_sp address p)) (with_sp address p) risen
      (load-below part address (with_sp address p) risen)

  pushed_pc_shaped : IsShaped part (pushed_pc part p)
  pushed_pc_shaped =
      let one = store part (sp p) (low p.pc) p in
      let one_shaped : IsShaped part one = store-shaped part (sp p) (low p.pc) p shaped (low-below p.pc) in
      with_sp-shaped part (minus (sp p) 2) (store part (minus (sp p) 1) (high p.pc) one)
      (store-shaped part (minus (sp p) 1) (high p.pc) one one_shaped (high-below p.pc))

  popped_pc_shaped : IsShaped part (popped_pc part p)
  popped_pc_shaped =
      pc_set part (with_sp (plus (sp p) 2) p) _ (with_sp-shaped part (plus (sp p) 2) p shaped)
      (in_flash (load part (plus (sp p) 2) p + 256 * load part (plus (sp p) 1) p))

  with_pc_shaped : (n : ℕ) → n < words_of part → IsShaped part (with_pc n p)
  with_pc_shaped n fits = pc_set part p n shaped fits

  called_shaped : (n : ℕ) → n < words_of part → IsShaped part (called part n p)
  called_shaped n fits = pc_set part (pushed_pc part p) n pushed_pc_shaped fits

  moved-below : (values k pc : ℕ) → moved part values k pc < words_of part
  moved-below values k pc =
      chosen (λ n. n < words_of part) _ _ _ (in_flash (pc + k)) (in_flash (pc + words_of part - (values - k) % words_of part))

  branch_shaped : (taken : Bool) (k : ℕ) → IsShapedEffect part (branch part taken k p)
  branch_shaped taken k =
      with_pc_shaped (cond taken (moved part 128 k p.pc) p.pc)
      (chosen (λ n. n < words_of part) taken (moved part 128 k p.pc) p.pc (moved-below 128 k p.pc) shaped.pc_in_flash)

  io_shaped : (a byte : ℕ) → byte < 256 → IsShaped part (with_io a byte p)
  io_shaped a byte small = io_set part p (store_io a byte p.io) shaped (store_io-shaped a byte p.io shaped.io small)

  flash_load_shaped : (d : ℕ) (beside : Machine) → IsShaped part beside → (byte : ℕ) → byte < 256 → IsShaped part (with_reg d byte beside)
  flash_load_shaped d beside beside_shaped byte small = with_reg-shaped part d byte beside beside_shaped small

  sum-below : (n : ℕ) → n % 256 < 256
  sum-below n = mod-lt n (omega arith)

  and-below : (a b : ℕ) → a < 256 → bit_and a b < 256
  and-below a b h = omega (arith, and_le_l a b)

  or-below : (a b : ℕ) → a < 256 → b < 256 → bit_or a b < 256
  or-below a b ha hb = or_lt 8 a b ha hb

  xor-below : (a b : ℕ) → a < 256 → b < 256 → bit_xor a b < 256
  xor-below a b ha hb = xor_lt 8 a b ha hb

  halved-below : (top : Bool) (a : ℕ) → a < 256 → 128 * bit top + a / 2 < 256
  halved-below true a h = omega arith
  halved-below false a h = omega arith

  complement-below : (a : ℕ) → 255 - a < 256
  complement-below a = omega arith

  swapped-below : (a : ℕ) → a < 256 → swapped a < 256
  swapped-below a h = omega arith

  pub effect_shaped : (instr : Instr) → (needed instr).0 < (needed instr).1 → IsShapedEffect part (effect part instr p)
  effect_shaped Nop fit = shaped
  effect_shaped (Movw d r) fit = with_pair-shaped part (2 * d) (pair p (2 * r)) p shaped
  effect_shaped (Muls d r) fit = word_result_shaped 0 (muls_of (reg p (16 + d)) (reg p (16 + r)))
  effect_shaped (Mulsu d r) fit = word_result_shaped 0 (mulsu_of (reg p (16 + d)) (reg p (16 + r)))
  effect_shaped (Fmul d r) fit = word_result_shaped 0 (fmul_of (reg p (16 + d)) (reg p (16 + r)))
  effect_shaped (Fmuls d r) fit = word_result_shaped 0 (fmuls_of (reg p (16 + d)) (reg p (16 + r)))
  effect_shaped (Fmulsu d r) fit = word_result_shaped 0 (fmulsu_of (reg p (16 + d)) (reg p (16 + r)))
  effect_shaped (Cpc d r) fit = comparison_shaped (sbc_of (reg p d) (reg p r))
  effect_shaped (Sbc d r) fit = result_shaped d (sbc_of (reg p d) (reg p r)) (sum-below _)
  effect_shaped (Add d r) fit = result_shaped d (add_of (reg p d) (reg p r)) (sum-below _)
  effect_shaped (Cpse d r) fit = tt
  effect_shaped (Cp d r) fit = comparison_shaped (sub_of (reg p d) (reg p r))
  effect_shaped (Sub d r) fit = result_shaped d (sub_of (reg p d) (reg p r)) (sum-below _)
  effect_shaped (Adc d r) fit = result_shaped d (adc_of (reg p d) (reg p r)) (sum-below _)
  effect_shaped (And d r) fit = result_shaped d (and_of (reg p d) (reg p r)) (and-below (reg p d) (reg p r) (r-below d))
  effect_shaped (Eor d r) fit = result_shaped d (eor_of (reg p d) (reg p r)) (xor-below (reg p d) (reg p r) (r-below d) (r-below r))
  effect_shaped (Or d r) fit = result_shaped d (or_of (reg p d) (reg p r)) (or-below (reg p d) (reg p r) (r-below d) (r-below r))
  effect_shaped (Mov d r) fit = with_reg-shaped part d (reg p r) p shaped (r-below r)
  effect_shaped (Cpi d k) fit = comparison_shaped (sub_of (reg p (16 + d)) k)
  effect_shaped (Sbci d k) fit = result_shaped (16 + d) (sbc_of (reg p (16 + d)) k) (sum-below _)
  effect_shaped (Subi d k) fit = result_shaped (16 + d) (sub_of (reg p (16 + d)) k) (sum-below _)
  effect_shaped (Ori d k) fit = result_shaped (16 + d) (or_of (reg p (16 + d)) k) (or-below (reg p (16 + d)) k (r-below (16 + d)) fit)
  effect_shaped (Andi d k) fit = result_shaped (16 + d) (and_of (reg p (16 + d)) k) (and-below (reg p (16 + d)) k (r-below (16 + d)))
  effect_shaped (Ldi d k) fit = with_reg-shaped part (16 + d) k p shaped fit
  effect_shaped (LddY d q) fit = loaded_shaped d (plus (pair p pointer_y) q)
  effect_shaped (LddZ d q) fit = loaded_shaped d (plus (pair p pointer_z) q)
  effect_shaped (StdY r q) fit = stored_shaped (plus (pair p pointer_y) q) r
  effect_shaped (StdZ r q) fit = stored_shaped (plus (pair p pointer_z) q) r
  effect_shaped (Lds d address) fit = loaded_shaped d address
  effect_shaped (LdZInc d) fit = load_then_add_shaped d pointer_z
  effect_shaped (LdZDec d) fit = subtract_then_load_shaped d pointer_z
  effect_shaped (LpmZ d) fit = flash_load_shaped d p shaped
  effect_shaped (LpmZInc d) fit =
      flash_load_shaped d (with_pair pointer_z (plus (pair p pointer_z) 1) p)
      (with_pair-shaped part pointer_z (plus (pair p pointer_z) 1) p shaped)
  effect_shaped (LdYInc d) fit = load_then_add_shaped d pointer_y
  effect_shaped (LdYDec d) fit = subtract_then_load_shaped d pointer_y
  effect_shaped (LdX d) fit = loaded_shaped d (pair p pointer_x)
  effect_shaped (LdXInc d) fit = load_then_add_shaped d pointer_x
  effect_shaped (LdXDec d) fit = subtract_then_load_shaped d pointer_x
  effect_shaped (Pop d) fit = popped_shaped d
  effect_shaped (Sts r address) fit = stored_shaped address r
  effect_shaped (StZInc r) fit = store_then_add_shaped r pointer_z
  effect_shaped (StZDec r) fit = subtract_then_store_shaped r pointer_z
  effect_shaped (StYInc r) fit = store_then_add_shaped r pointer_y
  effect_shaped (StYDec r) fit = subtract_then_store_shaped r pointer_y
  effect_shaped (StX r) fit = stored_shaped (pair p pointer_x) r
  effect_shaped (StXInc r) fit = store_then_add_shaped r pointer_x
  effect_shaped (StXDec r) fit = subtract_then_store_shaped r pointer_x
  effect_shaped (Push r) fit = pushed_shaped r
  effect_shaped (Com d) fit = result_shaped d (com_of (reg p d)) (complement-below (reg p d))
  effect_shaped (Neg d) fit = result_shaped d (neg_of (reg p d)) (sum-below _)
  effect_shaped (Swap d) fit = with_reg-shaped part d (swapped (reg p d)) p shaped (swapped-below (reg p d) (r-below d))
  effect_shaped (Inc d) fit = result_shaped d (inc_of (reg p d)) (sum-below _)
  effect_shaped (Asr d) fit = result_shaped d (asr_of (reg p d)) (halved-below (has_bit (reg p d) 7) (reg p d) (r-below d))
  effect_shaped (Lsr d) fit = result_shaped d (lsr_of (reg p d)) (halved-below false (reg p d) (r-below d))
  effect_shaped (Ror d) fit = result_shaped d (ror_of (reg p d)) (halved-below (flags p).carry (reg p d) (r-below d))
  effect_shaped (Dec d) fit = result_shaped d (dec_of (reg p d)) (sum-below _)
  effect_shaped (Bset s) fit = hold_set part (with_flag s true p) (s == 7) (with_flag-shaped part s true p shaped fit)
  effect_shaped (Bclr s) fit = with_flag-shaped part s false p shaped fit
  effect_shaped Ijmp fit = with_pc_shaped (pair p pointer_z % words_of part) (in_flash (pair p pointer_z))
  effect_shaped Icall fit = called_shaped (pair p pointer_z % words_of part) (in_flash (pair p pointer_z))
  effect_shaped Ret fit = popped_pc_shaped
  effect_shaped Reti fit =
      hold_set part (with_flag 7 true (popped_pc part p)) true
      (with_flag-shaped part 7 true (popped_pc part p) popped_pc_shaped (omega arith))
  effect_shaped Sleep fit = shaped
  effect_shaped Wdr fit = shaped
  effect_shaped Break fit = tt
  effect_shaped LpmR0 fit = flash_load_shaped 0 p shaped
  effect_shaped Spm fit = tt
  effect_shaped (Jmp k) fit = with_pc_shaped (k % words_of part) (in_flash k)
  effect_shaped (Call k) fit = called_shaped (k % words_of part) (in_flash k)
  effect_shaped (Adiw d k) fit = word_result_shaped (24 + 2 * d) (adiw_of (pair p (24 + 2 * d)) k)
  effect_shaped (Sbiw d k) fit = word_result_shaped (24 + 2 * d) (sbiw_of (pair p (24 + 2 * d)) k)
  effect_shaped (Cbi a b) fit =
      io_shaped a (with_bit (load_io a p.io) b false) (with_bit-below (load_io a p.io) b false (load_io-below a p.io shaped.io) fit)
  effect_shaped (Sbic a b) fit = tt
  effect_shaped (Sbi a b) fit =
      io_shaped a (with_bit (load_io a p.io) b true) (with_bit-below (load_io a p.io) b true (load_io-below a p.io shaped.io) fit)
  effect_shaped (Sbis a b) fit = tt
  effect_shaped (Mul d r) fit = word_result_shaped 0 (mul_of (reg p d) (reg p r))
  effect_shaped (In d a) fit = with_reg-shaped part d (load_io a p.io) p shaped (load_io-below a p.io shaped.io)
  effect_shaped (Out r a) fit = io_shaped a (reg p r) (r-below r)
  effect_shaped (Rjmp k) fit = with_pc_shaped (moved part 4096 k p.pc) (moved-below 4096 k p.pc)
  effect_shaped (Rcall k) fit = called_shaped (moved part 4096 k p.pc) (moved-below 4096 k p.pc)
  effect_shaped (Brbs s k) fit = branch_shaped (has_flag p s) k
  effect_shaped (Brbc s k) fit = branch_shaped (not (has_flag p s)) k
  effect_shaped (Bld d b) fit =
      with_reg-shaped part d (with_bit (reg p d) b (flags p).transfer) p shaped
      (with_bit-below (reg p d) b (flags p).transfer (r-below d) fit)
  effect_shaped (Bst d b) fit = with_flag-shaped part 6 (has_bit (reg p d) b) p shaped (omega arith)
  effect_shaped (Sbrc r b) fit = tt
  effect_shaped (Sbrs r b) fit = tt
  effect_shaped (Undefined w) fit = tt

module _ (part : Chip) (is_part : IsChip part) where
  advanced_shaped : (n : ℕ) (p : Machine) → IsShaped part p → IsShaped part (advanced part n p)
  advanced_shaped n p shaped =
      hold_set part (with_pc (behind part p.pc n) p) false (pc_set part p (behind part p.pc n) shaped (mod-lt (p.pc + n) is_part.has_flash))

  ended_shaped : (cycles : ℕ) (p after : Machine) → IsShaped part after → IsShaped part (ended cycles p after)
  ended_shaped cycles p after shaped = record {
    pc_in_flash = shaped.pc_in_flash;
    registers_length = shaped.registers_length;
    registers_bytes = shaped.registers_bytes;
    io = ticks-shaped cycles after.io shaped.io;
    sram_length = shaped.sram_length;
    sram_all_bytes = shaped.sram_all_bytes;
    steps_fit = mod-lt (p.steps + 1) (omega arith);
  }

  entered_shaped : (v : Vector) (p : Machine) → IsShaped part p → IsShaped part (entered part v p)
  entered_shaped v p shaped =
      let q = with_flag 7 false (pushed_pc part p) in
      let q_shaped : IsShaped part q =
      with_flag-shaped part 7 false (pushed_pc part p) (pushed_pc_shaped part is_part p shaped) (omega arith) in
      let small : with_bit (kept_byte q.io tifr) (flag_of v) false < 256 =
      with_bit-below (kept_byte q.io tifr) (flag_of v) false (kept_byte-below q.io tifr q_shaped.io) (flag-below v) in
      let q_io : IsShaped part (record q { io = take_flag v q.io }) =
      io_set part q (take_flag v q.io) q_shaped (io_byte_set q.io tifr (with_bit (kept_byte q.io tifr) (flag_of v) false) q_shaped.io small)
      in
      hold_set part (record q { io = take_flag v q.io; pc = address_of part v }) false
      (pc_set part (record q { io = take_flag v q.io }) (address_of part v) q_io (is_part.vectors_in_flash v))

  flash_byte-below : (flash : List ℕ) (address : ℕ) → flash_byte flash address < 256
  flash_byte-below flash address =
      chosen (λ n. n < 256) (address % 2 == 0) _ _ (low-below (word_at flash (address / 2))) (high-below (word_at flash (address / 2)))

  finished_shaped : (p : Machine) (flash : List ℕ) (e : Effect) → IsShaped part p → IsShapedEffect part e →
      IsShaped part (finished part p flash e)
  finished_shaped p flash (Acts cycles after) shaped e = ended_shaped cycles p after e
  finished_shaped p flash (Skips over) shaped e =
      let n = 1 + cond over (words_at flash (behind part p.pc 1)) 0 in ended_shaped n p (advanced part n p) (advanced_shaped n p shaped)
  finished_shaped p flash (Reads_flash cycles address after) shaped e =
      ended_shaped cycles p (after (flash_byte flash address)) (e (flash_byte flash address) (flash_byte-below flash address))
  finished_shaped p flash At_break shaped e = shaped
  finished_shaped p flash At_undefined shaped e = shaped

  executed_shaped : (p : Machine) (flash : List ℕ) → IsShaped part p → IsShaped part (executed part p flash)
  executed_shaped p flash shaped =
      let instr = instr_at part flash p.pc in
      let q = advanced part (words instr) p in
      finished_shaped p flash (effect_here part p instr) shaped
      (effect_shaped part is_part q (advanced_shaped (words instr) p shaped) instr
      (decoded_needed (word_at flash p.pc) (word_at flash (behind part p.pc 1))))

  by_due_shaped : (p : Machine) (flash : List ℕ) (o : Option Vector) → IsShaped part p → IsShaped part (step_by part p flash o)
  by_due_shaped p flash (Some v) shaped = ended_shaped 4 p (entered part v p) (entered_shaped v p shaped)
  by_due_shaped p flash None shaped = executed_shaped p flash shaped

  step_shaped : (p : Machine) (flash : List ℕ) → IsShaped part p → IsShaped part (step part p flash)
  step_shaped p flash shaped = subst (IsShaped part) (sym (step-is part p flash)) (by_due_shaped p flash (due part p) shaped)

  by_ahead_shaped : (p : Machine) (flash : List ℕ) (a : Ahead) → IsShaped part p → IsShaped part (go_by part p flash a)
  by_ahead_shaped p flash Interrupt shaped = step_shaped p flash shaped
  by_ahead_shaped p flash Ready shaped = step_shaped p flash shaped
  by_ahead_shaped p flash UndefinedAhead shaped = step_shaped p flash shaped
  by_ahead_shaped p flash BreakAhead shaped = ended_shaped 1 p (advanced part 1 p) (advanced_shaped 1 p shaped)

pub step_keeps_shape : StepKeepsShape
step_keeps_shape part p flash is_part shaped = step_shaped part is_part p flash shaped

pub go_keeps_shape : GoKeepsShape
go_keeps_shape part p flash is_part shaped =
    subst (IsShaped part) (sym (go-is part p flash)) (by_ahead_shaped part is_part p flash (ahead part p flash) shaped)
