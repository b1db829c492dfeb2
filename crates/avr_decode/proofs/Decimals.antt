-- Decimal numbers a digit at a time.
use Rattle.std.proofs.Common.{◌≡◌, ℕ, ◌+◌, ◌/◌, ◌%◌, ◌<◌, ◌≤◌, [], ◌∷◌, ◌++◌, length, decimal, sym, ap, ◌∙◌, arith}
use Rattle.std.proofs.lemmas.Bool.Decides.{nat_tests}
use Rattle.std.proofs.lemmas.Fmt.{decimal_digit, decimal_step, length-decimal-le}
use Rattle.avr_spec.specs.Text.{hex_digit}

decimal_hex_digit : (n : ℕ) → n < 10 → hex_digit n ≡ 48 + n
decimal_hex_digit n h = grind (arith, nat_tests)

pub one_digit : (n : ℕ) → n < 10 → hex_digit n ∷ [] ≡ decimal n
one_digit n h = ap (λ (d : ℕ). d ∷ []) (decimal_hex_digit n h) ∙ sym (decimal_digit n h)

pub more_digits : (n : ℕ) → 10 ≤ n → n < 65536 → decimal (n / 10) ++ (hex_digit (n % 10) ∷ []) ≡ decimal n
more_digits n h word =
    ap (λ (d : ℕ). decimal (n / 10) ++ (d ∷ [])) (decimal_hex_digit (n % 10) (omega arith)) ∙ sym (decimal_step n h (omega arith))

pub length-decimal : (n : ℕ) → n < 65536 → length (decimal n) ≤ 5
length-decimal n h = length-decimal-le 5 n (omega arith) (omega arith) (omega arith)
