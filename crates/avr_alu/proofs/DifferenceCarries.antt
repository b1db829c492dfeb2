-- The flags of a difference by the bits in which it differs from the bits without carries, found by computing every pair of bytes.
use Rattle.std.proofs.Common.{◌≡◌, ℕ, ◌+◌, ◌%◌, ◌<◌, ◌-◌, ◌==◌, nat_lt, Bool, true, false, refl, ap, ◌∙◌, ◌-ℤ◌, pos}
use Rattle.avr_spec.proofs.Computing.{all_pairs}
use Rattle.avr_spec.specs.Bytes.{has_bit, differ, signed, outside}
use Rattle.avr_alu.specs.Carries.{carry_bits, decided_by}
use Rattle.avr_alu.specs.declared.status.Decided.{Decided}
use Rattle.avr_alu.proofs.Agreeing.{agree, agreed, all_three, at_carries, carried}

abbrev wide_of : ℕ → ℕ → ℕ → ℕ
wide_of c a b = (65536 + a - (b + c)) % 65536

abbrev half_fits : ℕ → ℕ → ℕ → ℕ → Bool
half_fits c a b bits = agree (has_bit bits 0) (nat_lt (a % 16) (b % 16 + c))

abbrev out_fits : ℕ → ℕ → ℕ → ℕ → Bool
out_fits c a b bits = agree (has_bit bits 4) (nat_lt a (b + c))

abbrev overflow_fits : ℕ → ℕ → ℕ → ℕ → Bool
overflow_fits c a b bits = agree (differ (has_bit bits 3) (has_bit bits 4)) (outside (signed a -ℤ signed b -ℤ pos c))

abbrev fits : ℕ → ℕ → ℕ → ℕ → Bool
fits c a b bits =
    elim (half_fits c a b bits) [
      | true ↦ elim (out_fits c a b bits) [ true ↦ overflow_fits c a b bits | false ↦ false ]
      | false ↦ false
    ]

abbrev carries_fit : ℕ → ℕ → ℕ → Bool
carries_fit c a b = fits c a b (carry_bits (carried a b (wide_of c a b)))

without_carry : all_pairs 256 256 (carries_fit 0) ≡ true
without_carry = refl

with_carry : all_pairs 256 256 (carries_fit 1) ≡ true
with_carry = refl

-- the flags of difference, in whole numbers
abbrev pub of_difference : ℕ → ℕ → ℕ → Decided
of_difference c a b = let value = (256 + a - (b + c)) % 256 in record {
  half_carry = nat_lt (a % 16) (b % 16 + c);
  overflow = outside (signed a -ℤ signed b -ℤ pos c);
  negative = has_bit value 7;
  zero = value == 0;
  carry = nat_lt a (b + c);
}

pub decided_by-difference : (a b wide c : ℕ) → a < 256 → b < 256 → c < 2 → wide ≡ (65536 + a - (b + c)) % 65536 →
    decided_by ((256 + a - (b + c)) % 256) (carry_bits (carried a b wide)) ≡ of_difference c a b
decided_by-difference a b wide c ha hb low e =
    let bits = carry_bits (carried a b (wide_of c a b)) in
    let value = (256 + a - (b + c)) % 256 in
    let told = all_three (half_fits c a b bits) (out_fits c a b bits) (overflow_fits c a b bits)
    (at_carries carries_fit without_carry with_carry c a b low ha hb) in
    ap (λ (w : ℕ). decided_by value (carry_bits (carried a b w))) e ∙
    (λ i. record {
      half_carry = agreed (has_bit bits 0) (nat_lt (a % 16) (b % 16 + c)) told.0 i;
      overflow = agreed (differ (has_bit bits 3) (has_bit bits 4)) (outside (signed a -ℤ signed b -ℤ pos c)) told.2 i;
      negative = has_bit value 7;
      zero = value == 0;
      carry = agreed (has_bit bits 4) (nat_lt a (b + c)) told.1 i;
    })
