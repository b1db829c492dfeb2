-- The number of steps of a launch.
use Rattle.std.proofs.Common.{◌≡◌, ℕ, zero, suc, ◌<◌, ◌≤◌, List, [], ◌∷◌, length, slice_index_or, refl, ap, arith}
use Rattle.debug_spec.specs.Replay.{steps_for}

-- each launch has its own number, and each behind the list the last
pub number_of : (stops : List ℕ) (k m : ℕ) → m < length stops → (k < length stops → m ≡ k) → (length stops ≤ k → suc m ≡ length stops) →
    slice_index_or stops m 0 ≡ steps_for stops (suc k)
number_of [] k m within own last = absurd (omega (arith, within))
number_of (steps ∷ []) k zero within own last = refl
number_of (steps ∷ []) k (suc m) within own last = absurd (omega (arith, within))
number_of (steps ∷ next ∷ stops) zero m within own last =
    ap (λ (n : ℕ). slice_index_or (steps ∷ next ∷ stops) n 0) (own (omega arith))
number_of (steps ∷ next ∷ stops) (suc k) zero within own last = absurd (grind (arith, own, last))
number_of (steps ∷ next ∷ stops) (suc k) (suc m) within own last =
    number_of (next ∷ stops) k m (omega (arith, within)) (λ h. let same = own (omega (arith, h)) in omega (arith, same))
    (λ h. let same = last (omega (arith, h)) in omega (arith, same))
