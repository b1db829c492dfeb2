-- The bytes of a log that only proofs see.
use Rattle.std.specs.Prelude.{ℕ, List, map}

-- the bytes, each of which stands in a pair
abbrev pub bytes_told : {U : Type 0} → List (ℕ × U) → List ℕ
bytes_told pairs = map (λ pair. pair.0) pairs
