-- Numbers that were raised for the jobs so far.
use Rattle.std.proofs.Common.{◌≡◌, ℕ, ◌+◌, ◌≤◌, false, true, List, [], ◌∷◌, refl, arith, Option, Some, None, is_some}
use Rattle.std.specs.Prelude.{All, ◌==◌}
use Rattle.std.proofs.lemmas.List.Elements.{All-head, All-tail}
use Rattle.std.proofs.lemmas.Bool.Decides.{nat_tests}
use Rattle.ice_inbox.specs.declared.target_work.TargetDone.{TargetDone}
use Rattle.ice_inbox.specs.Stopping.{Raising}
use Rattle.ice_inbox.specs.Threads.{is_raised, IsSeated}

other : (m n : ℕ) → m ≤ n → (m == n + 1) ≡ false
other m n less = grind (arith, nat_tests)

-- the next job's number was not
pub not_raised : (raised : List ℕ) (number : ℕ) → All (λ n. n ≤ number) raised → is_raised (number + 1) raised ≡ false
not_raised [] number all = refl
not_raised (m ∷ raised) number all =
    rw (other m number (All-head (λ n. n ≤ number) m raised all)) (not_raised raised number (All-tail (λ n. n ≤ number) m raised all))

-- with no job out, the parts are here
pub seated_here : {F G T : Type 0} (allows : T → TargetDone F G → Type 0) (raiser : Raising) (number : ℕ) (ticket : Option T) →
    is_some ticket ≡ false → raiser.is_out ≡ false → IsSeated allows raiser number true ticket
seated_here allows raiser number None free home = (refl, home)
seated_here allows raiser number (Some ticket) free home = let clash : true ≡ false = free in cc
