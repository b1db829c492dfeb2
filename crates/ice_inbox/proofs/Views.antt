-- Facts of every view, as lists are read by their places.
use Rattle.std.proofs.Common.{◌≡◌, ◌≢◌, ℕ, zero, suc, List, [], ◌∷◌, ◌++◌, length, set, sym, refl, ap, subst, ⊎_elim}
use mathlib.Core.Option.{some, some-ne-none}
use lib.ListN.{get_elem?}
use Rattle.atomic_table.proofs.Lists.{at_set}

module _ {V : Type 0} where
  -- the fact holds of every view and its place
  abbrev pub All : (ℕ → V → Type 0) → List V → Type 0
  All F views = (place : ℕ) (v : V) → get_elem? views place ≡ some v → F place v

  -- where one view is changed
  pub all_set : (F : ℕ → V → Type 0) (views : List V) (place : ℕ) (w : V) → F place w
      → ((j : ℕ) (u : V) → j ≢ place → get_elem? views j ≡ some u → F j u) → All F (set views place w)
  all_set F views place w mine others j u e =
      ⊎_elim (λ (x : (j ≡ place) × (w ≡ u)). subst (λ (y : ℕ × V). F y.0 y.1) (λ i. (sym x.0 i, x.1 i)) mine)
      (λ (x : (j ≢ place) × (get_elem? views j ≡ some u)). others j u x.0 x.1) (at_set views place j w u e)

  -- where there is one view
  pub all_one : (F : ℕ → V → Type 0) (w : V) → F 0 w → All F (w ∷ [])
  all_one F w mine = all_set F (w ∷ []) 0 w mine (λ j u other e. absurd (other (only j u e)))
    where
      only : (j : ℕ) (u : V) → get_elem? (w ∷ []) j ≡ some u → j ≡ 0
      only zero u e = refl
      only (suc j) u e = absurd (some-ne-none u (sym e))

  -- what was not there before stands at the end
  pub at_end : (l : List V) (a b : V) (j : ℕ) → get_elem? l j ≢ some b → get_elem? (l ++ a ∷ []) j ≡ some b → j ≡ length l
  at_end [] a b zero n e = refl
  at_end [] a b (suc j) n e = absurd (some-ne-none b (sym e))
  at_end (x ∷ xs) a b zero n e = absurd (n e)
  at_end (x ∷ xs) a b (suc j) n e = ap suc (at_end xs a b j n e)
