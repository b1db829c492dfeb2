-- What a write does to one value.
use Rattle.std.specs.Prelude.{◌≡◌, ℕ, true, false, List, Result, MatchResult}
use Rattle.line_spec.specs.Parameters.{Accepted, line, takes}
use Rattle.line_spec.specs.declared.refusal.Refusal.{Refusal}
use Rattle.line_spec.specs.declared.refusal.Refusal.TheVariants.{IllegalValue}

-- the value is kept where it has as many bytes as the one before and is accepted; else it is refused, and the one before stays
pub record Keeps (accepted : Accepted) (before value : List ℕ) (result : Result (Unit {0}) Refusal) (after : List ℕ) : Type 0 where
  pub outcome : MatchResult result (λ _. (takes (line 0 before accepted) value ≡ true) × (after ≡ value))
      (λ refusal. (takes (line 0 before accepted) value ≡ false) × (refusal ≡ IllegalValue) × (after ≡ before))
