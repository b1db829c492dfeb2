use Rattle.std.proofs.Common.{◌≡◌, ◌∙◌, sym, ap, refl, ℕ, List, Ok, Err}
use Rattle.std.specs.Prelude.{Result, MatchResult, if◌then◌else◌}
use Rattle.line_spec.specs.Parameters.{Accepted, Parameter, line, takes, parameter_written}
use Rattle.line_spec.specs.declared.refusal.Refusal.{Refusal}
use Rattle.line_spec.specs.declared.refusal.Refusal.TheVariants.{IllegalValue}
use Rattle.ice_params.specs.Keeping.{Keeps}

-- what the arm of a literal writes is written at the id
pub write_at : {accepted : Accepted} {before value after : List ℕ} {result : Result (Unit {0}) Refusal} {kept old new : List Parameter} {id literal : ℕ}
    → kept ≡ old → id ≡ literal → Keeps accepted before value result after → (place : List ℕ → List Parameter) → place before ≡ kept
    → place after ≡ new
    → parameter_written kept literal value ≡ (if takes (line 0 before accepted) value then Ok (place value) else Err IllegalValue)
    → MatchResult result (λ _. parameter_written old id value ≡ Ok new)
    (λ refusal. (parameter_written old id value ≡ Err refusal) × (new ≡ old))
write_at {result = Ok done} same is keeps place stays left written =
    rw (← same, is, written, ← left, keeps.outcome.1, keeps.outcome.0) refl
write_at {result = Err refusal} same is keeps place stays left written = (
  rw (← same, is, written, keeps.outcome.0, keeps.outcome.1) refl,
  sym left ∙ ap place keeps.outcome.2 ∙ stays ∙ same,
)
