use Rattle.std.proofs.Common.{◌≡◌, ℕ, List, Ok}
use Rattle.line_spec.specs.Parameters.{Parameter, parameter_read}

-- what is read at the literal of an arm is read at the id
pub read_at : {before now : List Parameter} {id literal : ℕ} {items bytes : List ℕ} (state : ℕ) → before ≡ now → id ≡ literal → items ≡ bytes
    → parameter_read before state literal ≡ Ok bytes → parameter_read now state id ≡ Ok items
read_at state same is copied read = rw (← same, is, copied) read
