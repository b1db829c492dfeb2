-- The table has the eight shifts of each byte, by computing them for every register.
use Rattle.std.proofs.Common.{◌≡◌, ◌==◌, ◌&&◌, ℕ, zero, suc, ◌+◌, ◌*◌, ◌/◌, ◌%◌, ◌<◌, ◌^◌, Bool, true, List, [], ◌∷◌, length, get_or, bit_xor, refl, sym, ap, ◌∙◌, subst, inl, inr, arith, eqb-true}
use Rattle.std.proofs.lemmas.Bool.{cases_eq, and_parts}
use Rattle.std.proofs.lemmas.Nat.{xor_lt, div-add-mod'}
use Rattle.line_spec.specs.Check.{shifted_times, checked}
use Rattle.ice_frame.specs.declared.check.TheConstants.{TABLE}

-- the entry of the low byte is right under each high byte below n
is_right : ℕ → ℕ → ℕ → Bool
is_right low entry zero = true
is_right low entry (suc high) = (shifted_times 8 (high * 256 + low) == bit_xor high entry) && is_right low entry high

-- the entries are right, from this low byte on
are_right : ℕ → List ℕ → Bool
are_right low [] = true
are_right low (entry ∷ entries) = is_right low entry 256 && are_right (suc low) entries

table_right : are_right 0 TABLE ≡ true
unfolding are_right is_right
table_right = refl

right_at : (low entry n high : ℕ) → is_right low entry n ≡ true → high < n
    → shifted_times 8 (high * 256 + low) ≡ bit_xor high entry
unfolding is_right
right_at low entry zero high e h = absurd (omega arith)
right_at low entry (suc n) high e h =
    elim (cases_eq high n) [
      | inl same ↦
          let P : ℕ → Type 0 = λ k. shifted_times 8 (k * 256 + low) ≡ bit_xor k entry in
          subst P (sym same) (eqb-true (shifted_times 8 (n * 256 + low)) (bit_xor n entry) (and_parts _ _ e).0)
      | inr other ↦ right_at low entry n high (and_parts _ _ e).1 (omega (arith, h, other))
    ]

entry_right : (low : ℕ) (entries : List ℕ) (i k : ℕ) → are_right low entries ≡ true → i < length entries → k ≡ low + i
    → is_right k (get_or entries i 0) 256 ≡ true
unfolding are_right
entry_right low [] i k e h same = absurd (omega arith)
entry_right low (entry ∷ entries) zero k e h same =
    let P : ℕ → Type 0 = λ n. is_right n entry 256 ≡ true in
    let back : low ≡ k = omega arith in
    subst P back (and_parts _ _ e).0
entry_right low (entry ∷ entries) (suc i) k e h same =
    entry_right (suc low) entries i k (and_parts _ _ e).1 (omega arith) (omega arith)

shifted_by_table : (y : ℕ) → y < 2 ^ 16 → bit_xor (y / 256) (get_or TABLE (y % 256) 0) ≡ shifted_times 8 y
shifted_by_table y h =
    let low : y % 256 < length TABLE = omega arith in
    let right = entry_right 0 TABLE (y % 256) (y % 256) table_right low (omega arith) in
    sym (right_at (y % 256) (get_or TABLE (y % 256) 0) 256 (y / 256) right (omega arith))
    ∙ ap (λ (k : ℕ). shifted_times 8 k) (div-add-mod' y 256)

-- one byte more, as the code reads the table
pub checked_by_table : (before byte wide place : ℕ) → before < 2 ^ 16 → byte < 256 → wide ≡ byte → place ≡ bit_xor before wide % 256
    → bit_xor (bit_xor before wide / 256) (get_or TABLE place 0) ≡ checked before byte
unfolding checked
checked_by_table before byte wide place h b w p =
    ap (λ (k : ℕ). bit_xor (bit_xor before wide / 256) (get_or TABLE k 0)) p
    ∙ shifted_by_table (bit_xor before wide) (xor_lt 16 before wide h (omega arith))
    ∙ ap (λ (k : ℕ). shifted_times 8 (bit_xor before k)) w
