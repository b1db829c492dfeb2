-- Each flag of a byte by its mask, the byte with flags by masks, and a byte halved under a new top bit.
use Rattle.std.proofs.Common.{◌≡◌, ℕ, ◌+◌, ◌*◌, ◌/◌, ◌%◌, ◌<◌, ◌==◌, Bool, true, false, if◌then◌else◌, bit_and, bit_or, bit_xor, refl, arith, eqb-true}
use mir.Val.{bool_byte}
use Rattle.avr_spec.proofs.Computing.{all_below, at_below, all_bools, at_bool, block_at}
use Rattle.avr_spec.specs.Bytes.{bit}
use Rattle.avr_spec.specs.Sreg.{flags_of, byte_of}
use Rattle.avr_spec.specs.Flags.{signs}
use Rattle.avr_alu.proofs.Agreeing.{masked}
use Rattle.avr_alu.specs.Status.{decided_in}
use Rattle.avr_alu.specs.declared.status.Decided.{Decided}

abbrev pub masked_flags : ℕ → Decided
masked_flags byte = record {
  half_carry = masked byte 32;
  overflow = masked byte 8;
  negative = masked byte 4;
  zero = masked byte 2;
  carry = masked byte 1;
}

pub masks_are_flags : (byte : ℕ) → byte < 256 → masked_flags byte ≡ decided_in byte
masks_are_flags byte small = block_at masked_flags decided_in 0 256 refl byte (omega arith) (omega arith)

-- a byte with H, V and S, N and S, Z and C by masks, and by flags
abbrev pub masked_byte : ℕ → Bool → Bool → Bool → Bool → Bool → ℕ
masked_byte sreg h v n z c =
    bit_or (bit_or (bit_or (bit_or (bit_and sreg 192) (if h then 32 else 0)) (bit_xor (if v then 24 else 0) (if n then 20 else 0)))
    (if z then 2 else 0)) (if c then 1 else 0)

abbrev pub flagged_byte : ℕ → Bool → Bool → Bool → Bool → Bool → ℕ
flagged_byte sreg h v n z c = byte_of (record (signs (flags_of sreg) v n z) { half_carry = h; carry = c })

abbrev packs : ℕ → Bool → Bool → Bool → Bool → Bool → Bool
packs sreg h v n z c = masked_byte sreg h v n z c == flagged_byte sreg h v n z c

abbrev packs_2 : ℕ → Bool → Bool → Bool
packs_2 sreg h v = all_bools (λ n. all_bools (λ z. all_bools (packs sreg h v n z)))

abbrev packs_0 : ℕ → Bool
packs_0 sreg = all_bools (λ h. all_bools (packs_2 sreg h))

each_packs : all_below 256 packs_0 ≡ true
each_packs = refl

pub masks_are_byte : (sreg : ℕ) → sreg < 256 → (h v n z c : Bool) → masked_byte sreg h v n z c ≡ flagged_byte sreg h v n z c
masks_are_byte sreg small h v n z c =
    let e_s : packs_0 sreg ≡ true = at_below 256 packs_0 each_packs sreg small in
    let e_h : all_bools (packs_2 sreg h) ≡ true = at_bool (λ x. all_bools (packs_2 sreg x)) e_s h in
    let e_v : packs_2 sreg h v ≡ true = at_bool (packs_2 sreg h) e_h v in
    let e_n : all_bools (λ y. all_bools (packs sreg h v n y)) ≡ true =
    at_bool (λ x. all_bools (λ y. all_bools (packs sreg h v x y))) e_v n in
    let e_z : all_bools (packs sreg h v n z) ≡ true = at_bool (λ y. all_bools (packs sreg h v n y)) e_n z in
    eqb-true (masked_byte sreg h v n z c) (flagged_byte sreg h v n z c) (at_bool (packs sreg h v n z) e_z c)

-- a byte with Z and C by masks, and by flags
abbrev pub masked_product : ℕ → Bool → Bool → ℕ
masked_product sreg z c = bit_or (bit_or (bit_and sreg 252) (if z then 2 else 0)) (if c then 1 else 0)

abbrev pub flagged_product : ℕ → Bool → Bool → ℕ
flagged_product sreg z c = byte_of (record (flags_of sreg) { zero = z; carry = c })

abbrev keeps : ℕ → Bool → Bool → Bool
keeps sreg z c = masked_product sreg z c == flagged_product sreg z c

abbrev keeps_0 : ℕ → Bool
keeps_0 sreg = all_bools (λ z. all_bools (keeps sreg z))

each_keeps : all_below 256 keeps_0 ≡ true
each_keeps = refl

pub masks_keep_the_rest : (sreg : ℕ) → sreg < 256 → (z c : Bool) → masked_product sreg z c ≡ flagged_product sreg z c
masks_keep_the_rest sreg small z c =
    let e_s : keeps_0 sreg ≡ true = at_below 256 keeps_0 each_keeps sreg small in
    let e_z : all_bools (keeps sreg z) ≡ true = at_bool (λ x. all_bools (keeps sreg x)) e_s z in
    eqb-true (masked_product sreg z c) (flagged_product sreg z c) (at_bool (keeps sreg z) e_z c)

pub halved_byte : (top : Bool) (a : ℕ) → a < 256 → bit_or (bool_byte top * 128 % 256) (a / 2) ≡ 128 * bit top + a / 2
halved_byte true a small = block_at (λ n. bit_or 128 (n / 2)) (λ n. 128 + n / 2) 0 256 refl a (omega arith) (omega arith)
halved_byte false a small = block_at (λ n. bit_or 0 (n / 2)) (λ n. 0 + n / 2) 0 256 refl a (omega arith) (omega arith)

-- a byte of masks whose parts are known
pub parts_agree : (k p q r s t p_is q_is r_is s_is t_is : ℕ) → p ≡ p_is → q ≡ q_is → r ≡ r_is → s ≡ s_is → t ≡ t_is →
    bit_or (bit_or (bit_or (bit_or k p) (bit_xor q r)) s) t ≡ bit_or (bit_or (bit_or (bit_or k p_is) (bit_xor q_is r_is)) s_is) t_is
parts_agree k p q r s t p_is q_is r_is s_is t_is ep eq er es et = cc

pub two_agree : (k p q p_is q_is : ℕ) → p ≡ p_is → q ≡ q_is → bit_or (bit_or k p) q ≡ bit_or (bit_or k p_is) q_is
two_agree k p q p_is q_is ep eq = cc
