-- How many bytes come before the first of a kind.
use Rattle.std.proofs.Common.{◌≡◌, ℕ, suc, true, false, not, List, ◌∷◌, length, refl, arith}
use Rattle.std.specs.Prelude.{◌==◌}
use Rattle.std.specs.List.{position_or_len, take_while}
use Rattle.std.proofs.lemmas.List.{length-take}
use Rattle.std.proofs.lemmas.List.Sums.{prefix_len-le-length}

-- the place of the first, or the end
abbrev pub front_of : (stop : ℕ) → List ℕ → ℕ
front_of stop bytes = position_or_len (λ other. other == stop) bytes

pub front_is : (stop end : ℕ) (bytes : List ℕ) → end ≡ length (take_while (λ other. not (other == stop)) bytes) → end ≡ front_of stop bytes
front_is stop end bytes is =
    omega (arith, is, length-take (front_of stop bytes) bytes, prefix_len-le-length (λ other. not (other == stop)) bytes)

pub front_here : (stop first : ℕ) (more : List ℕ) → (first == stop) ≡ true → front_of stop (first ∷ more) ≡ 0
front_here stop first more h = rw h refl

pub front_past : (stop first : ℕ) (more : List ℕ) → (first == stop) ≡ false → front_of stop (first ∷ more) ≡ suc (front_of stop more)
front_past stop first more h = rw h (omega arith)
