-- Hexadecimal digits are read as what they are printed of.
use Rattle.std.proofs.Common.{◌≡◌, ℕ, ◌+◌, ◌*◌, ◌/◌, ◌%◌, ◌<◌, ◌==◌, ◌&&◌, Bool, true, [], ◌∷◌, refl, ap, ◌∙◌, arith, eqb-true}
use Rattle.std.specs.Prelude.{if◌then◌else◌, nat_lt, None, Some}
use Rattle.avr_spec.specs.Text.{hex_digit, hex_word}
use Rattle.avr_spec.proofs.Computing.{all_below, at_below}
use Rattle.asm_spec.specs.Tokens.{are_digits, digit_value, hex_number, number, number_on}
use Rattle.asm_spec.proofs.CleanTexts.{is_clean, is_clean_text}
use Rattle.asm_spec.proofs.Tests.{and_parts, and_both}

is_digit_back : ℕ → Bool
is_digit_back n = (digit_value (hex_digit n) == n) && (nat_lt (digit_value (hex_digit n)) 16 && is_clean (hex_digit n))

all_digits : all_below 16 is_digit_back ≡ true
unfolding is_digit_back
all_digits = refl

module _ (n : ℕ) (small : n < 16) where
  digit_parts : (digit_value (hex_digit n) ≡ n) × ((nat_lt (digit_value (hex_digit n)) 16 ≡ true) × (is_clean (hex_digit n) ≡ true))
  unfolding is_digit_back
  digit_parts =
      let digit : ℕ = hex_digit n in
      let parts = and_parts (digit_value digit == n) (nat_lt (digit_value digit) 16 && is_clean digit) (at_below 16 is_digit_back all_digits n small) in
      (eqb-true (digit_value digit) n parts.0, and_parts (nat_lt (digit_value digit) 16) (is_clean digit) parts.1)

-- four digits
of_four : (w x y z : ℕ) → are_digits 16 (w ∷ x ∷ y ∷ z ∷ []) ≡ true →
    hex_number (w ∷ x ∷ y ∷ z ∷ []) ≡ Some (number_on 16 0 (w ∷ x ∷ y ∷ z ∷ []))
of_four w x y z are = ap (λ (b : Bool). if b then Some (number_on 16 0 (w ∷ x ∷ y ∷ z ∷ [])) else None) are

four_are : (w x y z : ℕ) → nat_lt (digit_value w) 16 ≡ true → nat_lt (digit_value x) 16 ≡ true → nat_lt (digit_value y) 16 ≡ true →
    nat_lt (digit_value z) 16 ≡ true → are_digits 16 (w ∷ x ∷ y ∷ z ∷ []) ≡ true
four_are w x y z hw hx hy hz =
    let three : are_digits 16 (y ∷ z ∷ []) ≡ true =
    and_both (nat_lt (digit_value y) 16) (are_digits 16 (z ∷ [])) hy (and_both (nat_lt (digit_value z) 16) true hz refl) in
    and_both (nat_lt (digit_value w) 16) (are_digits 16 (x ∷ y ∷ z ∷ [])) hw
    (and_both (nat_lt (digit_value x) 16) (are_digits 16 (y ∷ z ∷ [])) hx three)

-- `0x` and four digits are read back
pub hex_word_back : (n : ℕ) → n < 65536 → number (hex_word n) ≡ Some n
hex_word_back n small =
    let w : ℕ = n / 256 / 16 % 16 in
    let x : ℕ = n / 256 % 16 in
    let y : ℕ = n / 16 % 16 in
    let z : ℕ = n % 16 in
    let dw = digit_parts w (omega arith) in
    let dx = digit_parts x (omega arith) in
    let dy = digit_parts y (omega arith) in
    let dz = digit_parts z (omega arith) in
    of_four (hex_digit w) (hex_digit x) (hex_digit y) (hex_digit z)
    (four_are (hex_digit w) (hex_digit x) (hex_digit y) (hex_digit z) dw.1.0 dx.1.0 dy.1.0 dz.1.0) ∙
    ap Some (by_values (digit_value (hex_digit w)) (digit_value (hex_digit x)) (digit_value (hex_digit y)) (digit_value (hex_digit z)) dw.0 dx.0 dy.0 dz.0)
  where
    by_values : (a b c d : ℕ) → a ≡ n / 256 / 16 % 16 → b ≡ n / 256 % 16 → c ≡ n / 16 % 16 → d ≡ n % 16 →
        16 * (16 * (16 * (16 * 0 + a) + b) + c) + d ≡ n
    by_values a b c d ha hb hc hd = omega (arith, ha, hb, hc, hd, small)

-- and have no blank and no mark among them
pub hex_word_clean : (n : ℕ) → is_clean_text (hex_word n) ≡ true
hex_word_clean n =
    let clean : (m : ℕ) → is_clean (hex_digit (m % 16)) ≡ true = λ m. (digit_parts (m % 16) (omega arith)).1.1 in
    and_both (is_clean (hex_digit (n / 256 / 16 % 16))) _ (clean (n / 256 / 16))
    (and_both (is_clean (hex_digit (n / 256 % 16))) _ (clean (n / 256))
    (and_both (is_clean (hex_digit (n / 16 % 16))) _ (clean (n / 16)) (and_both (is_clean (hex_digit (n % 16))) true (clean n) refl)))
