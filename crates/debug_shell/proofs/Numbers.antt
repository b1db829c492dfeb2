-- Numbers in hexadecimal digits.
use Rattle.std.proofs.Common.{◌≡◌, ℕ, zero, suc, ◌+◌, ◌*◌, ◌^◌, ◌%◌, false, ◌<◌, ◌≤◌, List, [], ◌∷◌, Option, None, Some, length, get_or, drop, refl, ap, ◌∙◌, arith}
use Rattle.std.proofs.Math.Seq.{drop-cons}
use Rattle.hex.specs.Hex.{hex_digit_value, is_hex_digit}
use Rattle.std.specs.List.{list_all}
use Rattle.std.specs.Prelude.{is_some}
use Rattle.std.proofs.lemmas.Grind.{common_steps}
use Rattle.shell_spec.specs.Operands.{digits_of, number_on, with_digit}

-- one digit more
pub number_on-digit : (number value : ℕ) (word : List ℕ) (i : ℕ) → i < length word → hex_digit_value (get_or word i 0) ≡ Some value
    → number_on (Some number) (drop i word) ≡ number_on (Some (16 * number + value)) (drop (suc i) word)
number_on-digit number value word i inside is =
    ap (number_on (Some number)) (drop-cons word i 0 inside)
    ∙ ap (λ (digit : Option ℕ). number_on (with_digit (Some number) digit) (drop (suc i) word)) is

number_on-none : (digits : List ℕ) → number_on None digits ≡ None
number_on-none [] = refl
number_on-none (digit ∷ digits) = number_on-none digits

-- a byte that is no digit
pub number_on-other : (number : ℕ) (word : List ℕ) (i : ℕ) → i < length word → hex_digit_value (get_or word i 0) ≡ None
    → number_on (Some number) (drop i word) ≡ None
number_on-other number word i inside is =
    ap (number_on (Some number)) (drop-cons word i 0 inside)
    ∙ ap (λ (digit : Option ℕ). number_on (with_digit (Some number) digit) (drop (suc i) word)) is
    ∙ number_on-none (drop (suc i) word)

-- one digit behind at most seven others fits
pub digit_fits : (number i : ℕ) → i < 8 → number < 16 ^ i → 16 * number + 15 < 2 ^ 32
digit_fits number zero within below = omega arith
digit_fits number (suc zero) within below = omega arith
digit_fits number (suc (suc zero)) within below = omega arith
digit_fits number (suc (suc (suc zero))) within below = omega arith
digit_fits number (suc (suc (suc (suc zero)))) within below = omega arith
digit_fits number (suc (suc (suc (suc (suc zero))))) within below = omega arith
digit_fits number (suc (suc (suc (suc (suc (suc zero)))))) within below = omega arith
digit_fits number (suc (suc (suc (suc (suc (suc (suc zero))))))) within below = omega arith
digit_fits number (suc (suc (suc (suc (suc (suc (suc (suc i)))))))) within below = absurd (omega arith)

-- digits that pass the first tests
pub digits_of-passed : (least most : ℕ) (word : List ℕ) → least ≤ length word → length word ≤ most → length word % 2 ≡ 0
    → list_all is_hex_digit word ≡ is_some (digits_of least most word)
digits_of-passed least most word enough fits even = grind (arith, common_steps)

pub digits_of-short : (least most : ℕ) (word : List ℕ) → length word < least → is_some (digits_of least most word) ≡ false
digits_of-short least most word short = grind (arith, common_steps)
