-- The values that name registers, and numbers as they are told.
use Rattle.std.proofs.Common.{◌≡◌, ◌≢◌, ◌⊎◌, inl, inr, ℕ, zero, suc, ◌+◌, ◌*◌, ◌/◌, ◌^◌, ◌<◌, ◌≤◌, Bool, true, false, nat_lt, nat_le, refl, sym, ap, ◌∙◌, arith, eqb-true}
use Rattle.std.specs.Prelude.{◌==◌, ◌-◌, ◌%◌, count_by, cond, if◌then◌else◌, find, List, drop, get_or, length, Option, None, Some, option_map}
use Rattle.std.proofs.lemmas.Bool.{cases_lt, eqb-false}
use Rattle.std.proofs.lemmas.Bool.Decides.{nat_tests}
use Rattle.std.proofs.lemmas.List.Sums.{sum_by-drop_more}
use Rattle.std.proofs.Math.Nat.{pow-succ', pow-le-pow_right, mod_self, mod-eq_of_lt}
use Rattle.asm_spec.specs.Reading.{Meaning, value, outside, below, found, naming, limited, behind}
use Rattle.avr_asm.specs.declared.forms.Named.{Named}
use Rattle.avr_asm.specs.declared.forms.Named.TheVariants.{Any, Even, Upper, Double}
use Rattle.avr_asm.specs.Meanings.{named_told}
use Rattle.avr_asm.specs.Told.{capped, most}

module _ (named : ℕ → ℕ) (number : ℕ) where
  -- the one value that names a register, among those below a limit
  found_step : (n k : ℕ) (b : Bool) → (named n == number) ≡ b → k < suc n → named k ≡ number → ((j : ℕ) → named j ≡ number → j ≡ k) →
      (k < n → find (λ n. named n == number) (below n) ≡ Some k) → find (λ n. named n == number) (below (suc n)) ≡ Some k
  found_step n k true h inside is one rest = rw h (ap Some (one n (eqb-true _ _ h)))
  found_step n k false h inside is one rest = rw h (rest (by_size (cases_lt k n)))
    where
      by_size : (k < n) ⊎ (n ≤ k) → k < n
      by_size (inl less) = less
      by_size (inr more) = absurd (let same : n ≡ k = omega arith in eqb-false _ _ h (ap named same ∙ is))

  found_below : (limit k : ℕ) → k < limit → named k ≡ number → ((j : ℕ) → named j ≡ number → j ≡ k) →
      find (λ n. named n == number) (below limit) ≡ Some k
  found_below zero k inside is one = absurd (omega arith)
  found_below (suc n) k inside is one = found_step n k (named n == number) refl inside is one (λ less. found_below n k less is one)

  -- and none
  none_step : (n : ℕ) (b : Bool) → (named n == number) ≡ b → (named n ≡ number → ⊥) →
      find (λ n. named n == number) (below n) ≡ None → find (λ n. named n == number) (below (suc n)) ≡ None
  none_step n true h never rest = absurd (never (eqb-true _ _ h))
  none_step n false h never rest = rw h rest

  none_below : (limit : ℕ) → ((j : ℕ) → j < limit → named j ≡ number → ⊥) → find (λ n. named n == number) (below limit) ≡ None
  none_below zero none = refl
  none_below (suc n) none =
      none_step n (named n == number) refl (none n (omega arith)) (none_below n (λ j inside. none j (omega (arith, inside))))

  pub naming_none : (limit : ℕ) → ((j : ℕ) → j < limit → named j ≡ number → ⊥) → naming named limit number ≡ outside
  naming_none limit none = ap found (none_below limit none)

  pub naming_one : (limit k : ℕ) → named k ≡ number → ((j : ℕ) → named j ≡ number → j ≡ k) → naming named limit number ≡ limited limit k
  naming_one limit k is one = by_size (cases_lt k limit)
    where
      by_size : (k < limit) ⊎ (limit ≤ k) → naming named limit number ≡ limited limit k
      by_size (inl less) =
          let here : nat_lt k limit ≡ true = grind (arith, nat_tests) in
          ap found (found_below limit k less is one) ∙ rw here refl
      by_size (inr more) =
          let here : nat_lt k limit ≡ false = grind (arith, nat_tests) in
          naming_none limit (λ j inside same. omega (arith, one j same, more, inside)) ∙ rw here refl

-- each field names a register once
pub named_once : (named : Named) (j k : ℕ) → named_told named j ≡ named_told named k → j ≡ k
named_once Any j k same = same
named_once Even j k same = omega (arith, same)
named_once Upper j k same = omega (arith, same)
named_once Double j k same = omega (arith, same)

named_small : (named : Named) (j : ℕ) → j < 2 ^ 19 → named_told named j < most
named_small Any j small = omega (arith, small)
named_small Even j small = omega (arith, small)
named_small Upper j small = omega (arith, small)
named_small Double j small = omega (arith, small)

-- a register is named as it is told
pub naming_capped : (named : Named) (limit number : ℕ) → limit ≤ 2 ^ 19 →
    naming (named_told named) limit (capped number) ≡ naming (named_told named) limit number
naming_capped named limit number few = by_size (cases_lt number most)
  where
    by_size : (number < most) ⊎ (most ≤ number) → naming (named_told named) limit (capped number) ≡ naming (named_told named) limit number
    by_size (inl less) = let same : capped number ≡ number = omega (arith, less) in ap (naming (named_told named) limit) same
    by_size (inr more) =
        naming_none (named_told named) (capped number) limit
        (λ j inside is. omega (arith, named_small named j (omega (arith, inside, few)), is, more))
        ∙ sym (naming_none (named_told named) number limit
        (λ j inside is. omega (arith, named_small named j (omega (arith, inside, few)), is, more)))

pub limited_capped : (limit number : ℕ) → limit ≤ most → limited limit (capped number) ≡ limited limit number
limited_capped limit number few = by_size (cases_lt number most)
  where
    by_size : (number < most) ⊎ (most ≤ number) → limited limit (capped number) ≡ limited limit number
    by_size (inl less) = let same : capped number ≡ number = omega (arith, less) in ap (limited limit) same
    by_size (inr more) =
        let here : nat_lt (capped number) limit ≡ false = grind (arith, nat_tests) in
        let there : nat_lt number limit ≡ false = grind (arith, nat_tests) in
        rw here (rw there refl)

pub behind_capped : (values number : ℕ) → values ≤ most → behind values (capped number) ≡ behind values number
behind_capped values number few = by_size (cases_lt number most)
  where
    by_size : (number < most) ⊎ (most ≤ number) → behind values (capped number) ≡ behind values number
    by_size (inl less) = let same : capped number ≡ number = omega (arith, less) in ap (behind values) same
    by_size (inr more) =
        let here : nat_le (capped number) (values / 2) ≡ false = grind (arith, nat_tests) in
        let there : nat_le number (values / 2) ≡ false = grind (arith, nat_tests) in
        rw here (rw there refl)

-- ---- a number in a form
pub mapped : (says : ℕ → Meaning) (found : Option ℕ) (n : ℕ) (m : Meaning) → Some n ≡ option_map capped found → m ≡ says n →
    ((k : ℕ) → says (capped k) ≡ says k) → Some m ≡ option_map says found
mapped says None n m is told same = absurd (cc)
mapped says (Some k) n m is told same =
    let number : n ≡ capped k = cc in
    ap Some (told ∙ ap says number ∙ same k)

-- ---- behind
pub behind_none : (values number : ℕ) → number ≡ 0 → value 0 ≡ behind values number
behind_none values number is =
    let here : nat_le 0 (values / 2) ≡ true = grind (arith, nat_tests) in
    let whole : (values - 0) % values ≡ 0 = ap (λ (n : ℕ). n % values) (let e : values - 0 ≡ values = omega arith in e) ∙ mod_self values in
    (sym (rw here (ap value whole))) ∙ ap (behind values) (sym is)

pub behind_some : (values number : ℕ) → number ≢ 0 → number ≤ values / 2 → value (values - number) ≡ behind values number
behind_some values number some inside =
    let here : nat_le number (values / 2) ≡ true = grind (arith, nat_tests) in
    let less : values - number < values = omega arith in
    sym (rw here (ap value (mod-eq_of_lt less)))

-- ---- the values of a field
pub limit_more : (letter : ℕ) (letters : List ℕ) (i limit more whole : ℕ) → i < length letters →
    more ≡ (if get_or letters i 0 == letter then 2 * limit else limit) →
    limit * 2 ^ count_by (λ other. other == letter) (drop i letters) ≡ whole →
    more * 2 ^ count_by (λ other. other == letter) (drop (i + 1) letters) ≡ whole
limit_more letter letters i limit more whole inside is was = by_test (get_or letters i 0 == letter) refl
  where
    split : count_by (λ other. other == letter) (drop i letters)
        ≡ cond (get_or letters i 0 == letter) 1 0 + count_by (λ other. other == letter) (drop (i + 1) letters)
    split = sum_by-drop_more (λ other. cond (other == letter) 1 0) letters i 0 inside

    by_test : (b : Bool) → (get_or letters i 0 == letter) ≡ b → more * 2 ^ count_by (λ other. other == letter) (drop (i + 1) letters) ≡ whole
    by_test true h =
        let double : more ≡ 2 * limit = rw h at is in
        let one : count_by (λ other. other == letter) (drop i letters) ≡ suc (count_by (λ other. other == letter) (drop (i + 1) letters)) =
        omega (arith, rw h at split) in
        let wider : 2 ^ count_by (λ other. other == letter) (drop i letters) ≡ 2 * 2 ^ count_by (λ other. other == letter) (drop (i + 1) letters) =
        ap (λ (n : ℕ). 2 ^ n) one ∙ pow-succ' 2 (count_by (λ other. other == letter) (drop (i + 1) letters)) in
        let turned : 2 * limit * 2 ^ count_by (λ other. other == letter) (drop (i + 1) letters)
        ≡ limit * (2 * 2 ^ count_by (λ other. other == letter) (drop (i + 1) letters)) = omega arith in
        ap (λ (n : ℕ). n * 2 ^ count_by (λ other. other == letter) (drop (i + 1) letters)) double ∙ turned
        ∙ ap (λ (n : ℕ). limit * n) (sym wider) ∙ was
    by_test false h =
        let same : more ≡ limit = rw h at is in
        let none : count_by (λ other. other == letter) (drop i letters) ≡ count_by (λ other. other == letter) (drop (i + 1) letters) =
        omega (arith, rw h at split) in
        ap (λ (n : ℕ). n * 2 ^ count_by (λ other. other == letter) (drop (i + 1) letters)) same ∙ sym (ap (λ (n : ℕ). limit * 2 ^ n) none) ∙ was

pub limit_small : (limit more i : ℕ) (now : Bool) → more ≡ (if now then 2 * limit else limit) → limit ≤ 2 ^ i → more ≤ 2 ^ (i + 1)
limit_small limit more i true is small =
    let wider : 2 ^ (i + 1) ≡ 2 * 2 ^ i = ap (λ (n : ℕ). 2 ^ n) (let e : i + 1 ≡ suc i = omega arith in e) ∙ pow-succ' 2 i in
    omega (arith, wider)
limit_small limit more i false is small =
    let wider : 2 ^ (i + 1) ≡ 2 * 2 ^ i = ap (λ (n : ℕ). 2 ^ n) (let e : i + 1 ≡ suc i = omega arith in e) ∙ pow-succ' 2 i in
    omega (arith, wider)

pub few_values : (limit i : ℕ) → i ≤ 19 → limit ≤ 2 ^ i → limit ≤ 2 ^ 19
few_values limit i few small =
    let wide : 2 ^ i ≤ 2 ^ 19 = pow-le-pow_right (omega arith) few in
    omega (arith, wide)
