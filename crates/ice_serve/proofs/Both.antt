-- The flash and the runner, moved one after the other.
use Rattle.std.proofs.Common.{◌≤◌, ℕ, List, [], ◌∷◌, ◌++◌, refl, sym, subst, arith}
use Rattle.debug_spec.specs.Device.{Outcome, made, failed, denied, Asked, write, launch}
use Rattle.debug_spec.specs.Moved.{Flash, Moved}
use Rattle.ice_serve.specs.Outside.{Outside, outside, IsLaunch, MovesBoth}

module _ {F : Type 0} (flash : Flash F) where
  -- the count may have risen before, and after
  earlier : (f : F) (n m : ℕ) (asks : List Asked) (to : Outside F) → n ≤ m → MovesBoth flash (outside f m) asks to →
      MovesBoth flash (outside f n) asks to
  earlier f n m [] to less h = (h.0, omega (arith, less, h.1))
  earlier f n m (write page content outcome ∷ asks) to less h = (h.0, h.1, earlier h.0 n m asks to less h.2)
  earlier f n m (launch made ∷ asks) to less h = (h.0, omega (arith, less, h.1), h.2)
  earlier f n m (launch (failed left) ∷ asks) to less h = absurd h.1
  earlier f n m (launch denied ∷ asks) to less h = (h.0, omega (arith, less, h.1), h.2)

  -- asks, and then others
  pub both_onward : (f g : F) (n m : ℕ) (asks more : List Asked) (to : Outside F) → MovesBoth flash (outside f n) asks (outside g m) →
      MovesBoth flash (outside g m) more to → MovesBoth flash (outside f n) (asks ++ more) to
  both_onward f g n m [] more to first second =
      subst (λ (x : F). MovesBoth flash (outside x n) more to) first.0 (earlier g n m more to first.1 second)
  both_onward f g n m (write page content outcome ∷ asks) more to first second =
      (first.0, first.1, both_onward first.0 g n m asks more to first.2 second)
  both_onward f g n m (launch outcome ∷ asks) more to first second =
      (first.0, first.1, both_onward f g first.0 m asks more to first.2 second)

  -- what moved the flash, with no launch refused, while the count did not fall
  pub both_flash : (f g : F) (n m : ℕ) (asks : List Asked) → n ≤ m → Moved flash f asks g → MovesBoth flash (outside f n) asks (outside g m)
  both_flash f g n m [] less h = (h, less)
  both_flash f g n m (write page content outcome ∷ asks) less h = (h.0, h.1, both_flash h.0 g n m asks less h.2)
  both_flash f g n m (launch outcome ∷ asks) less h =
      (n, subst (λ (o : Outcome). IsLaunch o n n) (sym h.0) (omega arith), both_flash f g n m asks less h.1)

  -- a launch
  pub both_launch : (f : F) (n m : ℕ) (outcome : Outcome) → IsLaunch outcome n m →
      MovesBoth flash (outside f n) (launch outcome ∷ []) (outside f m)
  both_launch f n m outcome h = (m, h, (refl, omega arith))
