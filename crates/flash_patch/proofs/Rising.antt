-- Sets of addresses in rising order.
use Rattle.std.proofs.Common.{◌≡◌, ℕ, suc, ◌≤◌, ◌==◌, ◌||◌, cond, ltb, Bool, true, false, List, [], ◌∷◌}
use Rattle.std.proofs.Common.{refl, sym, ap, arith}
use Rattle.std.proofs.lemmas.Bool.{eqb-true, ltb-true, ltb-false, eqb-false, true≢false}
use Rattle.debug_spec.specs.Patch.{has, without}
use Rattle.debug_spec.specs.Breakpoints.{inserted}
use Rattle.flash_patch.specs.State.{RisesFrom}

lower : (low high : ℕ) (set : List ℕ) → low ≤ high → RisesFrom high set → RisesFrom low set
lower low high [] less rises = tt
lower low high (address ∷ set) less rises = (omega (arith, less, rises.0), rises.1)

-- every address of the set is as high as its first
from-has : (low : ℕ) (set : List ℕ) (a : ℕ) → RisesFrom low set → has set a ≡ true → low ≤ a
from-has low [] a rises h = absurd (true≢false (sym h))
from-has low (b ∷ set) a rises h = by_test (a == b) refl h (from-has (suc b) set a rises.1)
  where
    by_test : (t : Bool) → (a == b) ≡ t → (t || has set a) ≡ true → (has set a ≡ true → suc b ≤ a) → low ≤ a
    by_test true e h later = omega (arith, rises.0, eqb-true a b e)
    by_test false e h later = omega (arith, rises.0, later h)

-- an address more, and an address less
pub rises-inserted : (low a : ℕ) (set : List ℕ) → low ≤ a → RisesFrom low set → RisesFrom low (inserted a set)
rises-inserted low a [] least rises = (least, tt)
rises-inserted low a (b ∷ set) least rises = by_less (ltb a b) refl (λ above. rises-inserted (suc b) a set above rises.1)
  where
    by_equal : (t : Bool) → (a == b) ≡ t → ltb a b ≡ false → (suc b ≤ a → RisesFrom (suc b) (inserted a set)) →
        RisesFrom low (cond t (b ∷ set) (b ∷ inserted a set))
    by_equal true e not_less later = rises
    by_equal false e not_less later = (rises.0, later (omega (arith, ltb-false a b not_less, eqb-false a b e)))

    by_less : (t : Bool) → ltb a b ≡ t → (suc b ≤ a → RisesFrom (suc b) (inserted a set)) →
        RisesFrom low (cond t (a ∷ b ∷ set) (cond (a == b) (b ∷ set) (b ∷ inserted a set)))
    by_less true e later = (least, (omega (arith, ltb-true a b e), rises.1))
    by_less false e later = by_equal (a == b) refl e later

pub rises-without : (low a : ℕ) (set : List ℕ) → RisesFrom low set → RisesFrom low (without a set)
rises-without low a [] rises = tt
rises-without low a (b ∷ set) rises = by_test (a == b) (rises-without (suc b) a set rises.1)
  where
    by_test : (t : Bool) → RisesFrom (suc b) (without a set) → RisesFrom low (cond t (without a set) (b ∷ without a set))
    by_test true later = lower low (suc b) (without a set) (omega (arith, rises.0)) later
    by_test false later = (rises.0, later)

-- an address that is there already
pub inserted-there : (low a : ℕ) (set : List ℕ) → RisesFrom low set → has set a ≡ true → inserted a set ≡ set
inserted-there low a [] rises h = absurd (true≢false (sym h))
inserted-there low a (b ∷ set) rises h = by_less (ltb a b) refl (λ there. inserted-there (suc b) a set rises.1 there)
  where
    by_equal : (t : Bool) → (t || has set a) ≡ true → (has set a ≡ true → inserted a set ≡ set) →
        cond t (b ∷ set) (b ∷ inserted a set) ≡ b ∷ set
    by_equal true there later = refl
    by_equal false there later = ap (λ (s : List ℕ). b ∷ s) (later there)

    by_less : (t : Bool) → ltb a b ≡ t → (has set a ≡ true → inserted a set ≡ set) →
        cond t (a ∷ b ∷ set) (cond (a == b) (b ∷ set) (b ∷ inserted a set)) ≡ b ∷ set
    by_less true e later = absurd (omega (arith, ltb-true a b e, from-has b (b ∷ set) a (omega arith, rises.1) h))
    by_less false e later = by_equal (a == b) h later
