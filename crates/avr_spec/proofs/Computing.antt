-- Facts about every number of a range, found by computing: each test is run for each number, and the answer is `true` by `refl`.
use Rattle.std.proofs.Common.{◌≡◌, ℕ, zero, suc, ◌+◌, ◌<◌, ◌≤◌, Bool, true, false, List, [], ◌∷◌, refl, subst, arith, ◌⊎◌, inl, inr}
use borrow.Author.Count.{below_more}

-- p holds of each number below n
abbrev pub all_below : ℕ → (ℕ → Bool) → Bool
all_below zero p = true
all_below (suc n) p = elim (p n) [ true ↦ all_below n p | false ↦ false ]

-- p holds of each pair of numbers below n and m
abbrev pub all_pairs : ℕ → ℕ → (ℕ → ℕ → Bool) → Bool
all_pairs n m p = all_below n (λ a. all_below m (p a))

-- p holds of both truth values
abbrev pub all_bools : (Bool → Bool) → Bool
all_bools p = elim (p true) [ true ↦ p false | false ↦ false ]

-- the two parts of a test in which the second waits for the first
pub both : (a b : Bool) → (elim a [ true ↦ b | false ↦ false ]) ≡ true → (a ≡ true) × (b ≡ true)
both true b e = (refl, e)
both false b e = cc

pub at_below : (n : ℕ) (p : ℕ → Bool) → all_below n p ≡ true → (k : ℕ) → k < n → p k ≡ true
at_below zero p e k h = absurd (omega arith)
at_below (suc n) p e k h =
    let parts = both (p n) (all_below n p) e in
    let fits : k < n + 1 = omega arith in
    below_more (λ i. p i ≡ true) n (at_below n p parts.1) parts.0 k fits

pub at_pairs : (n m : ℕ) (p : ℕ → ℕ → Bool) → all_pairs n m p ≡ true → (a b : ℕ) → a < n → b < m → p a b ≡ true
at_pairs n m p e a b ha hb = at_below m (p a) (at_below n (λ i. all_below m (p i)) e a ha) b hb

pub at_bool : (p : Bool → Bool) → all_bools p ≡ true → (b : Bool) → p b ≡ true
at_bool p e true = (both (p true) (p false) e).0
at_bool p e false = (both (p true) (p false) e).1

-- the values of f at the n numbers from `from` on
abbrev pub tabulate : {A : Type 0} → (ℕ → A) → ℕ → ℕ → List A
tabulate f from zero = []
tabulate f from (suc n) = f from ∷ tabulate f (suc from) n

-- two functions with the same values in a block agree at each number of the block
pub block_at : {A : Type 0} (f g : ℕ → A) (from n : ℕ) → tabulate f from n ≡ tabulate g from n → (k : ℕ) → from ≤ k → k < from + n →
    f k ≡ g k
block_at f g from zero e k low high = absurd (omega arith)
block_at f g from (suc n) e k low high =
    let first : f from ≡ g from = cc in
    let rest : tabulate f (suc from) n ≡ tabulate g (suc from) n = cc in
    elim (split from k low) [
      | inl same ↦ subst (λ i. f i ≡ g i) same first
      | inr above ↦ block_at f g (suc from) n rest k above (omega arith)
    ]
  where
    split : (i j : ℕ) → i ≤ j → (i ≡ j) ⊎ (suc i ≤ j)
    split i j h = grind arith
