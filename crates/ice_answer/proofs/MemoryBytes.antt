-- Bytes that are read and stored, one by one.
use Rattle.std.proofs.Common.{◌≡◌, ℕ, zero, suc, ◌+◌, ◌-◌, ◌*◌, ◌%◌, ◌<◌, ◌≤◌, Bool, true, false, List, [], ◌∷◌, ◌++◌, length, take, drop}
use Rattle.std.proofs.Common.{slice_index}
use Rattle.std.proofs.Common.{slice_set, nat_lt, if◌then◌else◌, refl, sym, ap, ◌∙◌, arith}
use Rattle.std.proofs.lemmas.Bool.{lt-ltb, le-ltb}
use Rattle.part_spec.specs.Chip.{Chip}
use Rattle.part_spec.specs.Pages.{paired}
use Rattle.avr_spec.specs.IoSpace.{store_io}
use Rattle.avr_spec.specs.Machine.{Machine}
use Rattle.avr_spec.specs.Memory.{store}
use Rattle.avr_spec.specs.Effect.{with_io}
use Rattle.debug_spec.specs.MemoryTypes.{bytes_from, stored_from}

-- so many bytes, and one more
pub bytes_one_more : (byte_at : ℕ → ℕ) (count address : ℕ) →
    bytes_from byte_at address (suc count) ≡ bytes_from byte_at address count ++ byte_at (address + count) ∷ []
bytes_one_more byte_at zero address = let here : address ≡ address + 0 = omega arith in ap (λ (k : ℕ). byte_at k ∷ []) here
bytes_one_more byte_at (suc count) address =
    let here : suc address + count ≡ address + suc count = omega arith in
    ap (λ (t : List ℕ). byte_at address ∷ t) (bytes_one_more byte_at count (suc address)) ∙
    ap (λ (k : ℕ). byte_at address ∷ bytes_from byte_at (suc address) count ++ byte_at k ∷ []) here

-- the bytes up to a place are stored, and then the one that stands there
pub stored_one_more : (store_at : ℕ → ℕ → Machine → Machine) (bytes : List ℕ) (place address to byte : ℕ) (p : Machine) →
    place < length bytes →
    to ≡ address + place → byte ≡ slice_index bytes place →
    store_at to byte (stored_from store_at address (take place bytes) p) ≡ stored_from store_at address (take (suc place) bytes) p
stored_one_more store_at [] place address to byte p inside at is = absurd (omega (arith, inside))
stored_one_more store_at (first ∷ bytes) zero address to byte p inside at is =
    let here : to ≡ address = omega (arith, at) in ap (λ (k : ℕ). store_at k byte p) here ∙ ap (λ (b : ℕ). store_at address b p) is
stored_one_more store_at (first ∷ bytes) (suc place) address to byte p inside at is =
    stored_one_more store_at bytes place (suc address) to byte (store_at address first p) (omega (arith, inside)) (omega (arith, at)) is

-- a store in the data space, by where its address stands
abbrev store_by : (low io sram : Bool) → (address a byte : ℕ) → Machine → Machine
store_by low io sram address a byte p = record p {
  registers = if low then slice_set p.registers address byte else p.registers;
  io = if low then p.io else if io then store_io a byte p.io else p.io;
  sram = if io then p.sram else if sram then slice_set p.sram (address - 0x60) byte else p.sram;
}

-- a store at an I/O address is one in the data space
store_io-is : (part : Chip) (a to byte : ℕ) (p : Machine) → to ≡ 0x20 + a → a < 64 → store part to byte p ≡ with_io a byte p
store_io-is part a to byte p at less =
    let sram : Bool = nat_lt to part.sram_end in
    ap (λ (b : Bool). store_by b (nat_lt to 0x60) sram to (to - 0x20) byte p) (le-ltb to 0x20 (omega (arith, at))) ∙
    ap (λ (b : Bool). store_by false b sram to (to - 0x20) byte p) (lt-ltb to 0x60 (omega (arith, at, less))) ∙
    ap (λ (k : ℕ). store_by false true sram to k byte p) (omega (arith, at))

-- stores at I/O addresses are stores in the data space
pub stored_io : (part : Chip) (bytes : List ℕ) (address to : ℕ) (p : Machine) → to ≡ 0x20 + address → address + length bytes ≤ 64 →
    stored_from (store part) to bytes p ≡ stored_from with_io address bytes p
stored_io part [] address to p at within = refl
stored_io part (byte ∷ bytes) address to p at within =
    ap (λ (q : Machine). stored_from (store part) (suc to) bytes q) (store_io-is part address to byte p at (omega (arith, within))) ∙
    stored_io part bytes (suc address) (suc to) (with_io address byte p) (omega (arith, at)) (omega (arith, within))

-- of bytes that are put together as words the first half as many words
pub take-paired : (n : ℕ) (bytes : List ℕ) → take n (paired bytes) ≡ paired (take (2 * n) bytes)
take-paired zero bytes = refl
take-paired (suc n) [] =
    let two : 2 * suc n ≡ suc (suc (2 * n)) = omega arith in ap (λ (k : ℕ). paired (take k [])) (sym two)
take-paired (suc n) (low ∷ []) =
    let two : 2 * suc n ≡ suc (suc (2 * n)) = omega arith in ap (λ (k : ℕ). paired (take k (low ∷ []))) (sym two)
take-paired (suc n) (low ∷ high ∷ bytes) =
    let two : 2 * suc n ≡ suc (suc (2 * n)) = omega arith in
    ap (λ (t : List ℕ). (low + 256 * high) ∷ t) (take-paired n bytes) ∙ ap (λ (k : ℕ). paired (take k (low ∷ high ∷ bytes))) (sym two)

-- and the words behind them
pub drop-paired : (n : ℕ) (bytes : List ℕ) → drop n (paired bytes) ≡ paired (drop (2 * n) bytes)
drop-paired zero bytes = refl
drop-paired (suc n) [] =
    let two : 2 * suc n ≡ suc (suc (2 * n)) = omega arith in ap (λ (k : ℕ). paired (drop k [])) (sym two)
drop-paired (suc n) (low ∷ []) =
    let two : 2 * suc n ≡ suc (suc (2 * n)) = omega arith in ap (λ (k : ℕ). paired (drop k (low ∷ []))) (sym two)
drop-paired (suc n) (low ∷ high ∷ bytes) =
    let two : 2 * suc n ≡ suc (suc (2 * n)) = omega arith in
    drop-paired n bytes ∙ ap (λ (k : ℕ). paired (drop k (low ∷ high ∷ bytes))) (sym two)

-- bytes are half as many words
pub length-paired : (bytes : List ℕ) → length bytes % 2 ≡ 0 → 2 * length (paired bytes) ≡ length bytes
length-paired [] even = refl
length-paired (low ∷ []) even = absurd (omega (arith, even))
length-paired (low ∷ high ∷ bytes) even = omega (arith, length-paired bytes (omega (arith, even)))

-- the words up to a place, and the one that stands there
pub paired_one_more : (bytes : List ℕ) (place : ℕ) → 2 * place + 1 < length bytes →
    take (suc place) (paired bytes) ≡
    take place (paired bytes) ++ (slice_index bytes (2 * place) + 256 * slice_index bytes (2 * place + 1)) ∷ []
paired_one_more [] place inside = absurd (omega (arith, inside))
paired_one_more (low ∷ []) place inside = absurd (omega (arith, inside))
paired_one_more (low ∷ high ∷ bytes) zero inside = refl
paired_one_more (low ∷ high ∷ bytes) (suc place) inside =
    let even : 2 * suc place ≡ suc (suc (2 * place)) = omega arith in
    let odd : 2 * suc place + 1 ≡ suc (suc (2 * place + 1)) = omega arith in
    ap (λ (t : List ℕ). (low + 256 * high) ∷ t) (paired_one_more bytes place (omega (arith, inside))) ∙
    ap (λ (k : ℕ). (low + 256 * high) ∷ take place (paired bytes) ++
    (slice_index (low ∷ high ∷ bytes) k + 256 * slice_index bytes (2 * place + 1)) ∷ []) (sym even) ∙
    ap (λ (k : ℕ). (low + 256 * high) ∷ take place (paired bytes) ++
    (slice_index (low ∷ high ∷ bytes) (2 * suc place) + 256 * slice_index (low ∷ high ∷ bytes) k) ∷ []) (sym odd)
