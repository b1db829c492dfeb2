-- Digits of a text.
use Rattle.std.proofs.Common.{◌≡◌, ◌⊎◌, inl, inr, ℕ, suc, ◌+◌, ◌*◌, ◌<◌, ◌≤◌, List, [], ◌∷◌, length, get_or, drop, sym, ap, ◌∙◌, arith}
use Rattle.std.specs.Prelude.{min}
use Rattle.std.proofs.Math.Seq.{drop-cons}
use Rattle.std.proofs.lemmas.Bool.{cases_lt}
use Rattle.std.proofs.lemmas.Nat.{mul-le}
use Rattle.asm_spec.specs.Tokens.{digit_value, number_on}
use Rattle.avr_asm.specs.Told.{capped, most}

-- numbers that are told alike
abbrev Alike : ℕ → ℕ → Type 0
Alike x y = (x ≡ y) ⊎ ((most ≤ x) × (most ≤ y))

grows : (base x digit : ℕ) → 1 ≤ base → most ≤ x → most ≤ base * x + digit
grows base x digit some large = omega (arith, mul-le 1 x base x some (omega arith))

alike_on : (base : ℕ) (digits : List ℕ) (x y : ℕ) → 1 ≤ base → Alike x y → capped (number_on base x digits) ≡ capped (number_on base y digits)
alike_on base digits x y some (inl same) = ap (λ (n : ℕ). capped (number_on base n digits)) same
alike_on base [] x y some (inr large) = omega (arith, large.0, large.1)
alike_on base (digit ∷ digits) x y some (inr large) =
    alike_on base digits (base * x + digit_value digit) (base * y + digit_value digit) some
    (inr (grows base x (digit_value digit) some large.0, grows base y (digit_value digit) some large.1))

alike_capped : (x y : ℕ) → x ≡ min y most → Alike x y
alike_capped x y is = by_size (cases_lt y most)
  where
    by_size : (y < most) ⊎ (most ≤ y) → Alike x y
    by_size (inl less) = inl (omega (arith, is))
    by_size (inr more) = inr (omega (arith, is), more)

-- one digit more
pub capped_more : (base : ℕ) (digits : List ℕ) (i number next : ℕ) → 1 ≤ base → i < length digits →
    next ≡ min (base * number + digit_value (get_or digits i 0)) most →
    capped (number_on base next (drop (i + 1) digits)) ≡ capped (number_on base number (drop i digits))
capped_more base digits i number next some inside is =
    let digit : ℕ = digit_value (get_or digits i 0) in
    let next_place : suc i ≡ i + 1 = omega arith in
    let here : drop i digits ≡ get_or digits i 0 ∷ drop (i + 1) digits =
    drop-cons digits i 0 inside ∙ ap (λ (k : ℕ). get_or digits i 0 ∷ drop k digits) next_place in
    alike_on base (drop (i + 1) digits) next (base * number + digit) some (alike_capped next (base * number + digit) is)
    ∙ sym (ap (λ (rest : List ℕ). capped (number_on base number rest)) here)
