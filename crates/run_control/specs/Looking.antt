-- Looks for whether a run is to stop, counted.
use Rattle.std.specs.Prelude.{◌≡◌, ℕ, zero, suc, ◌+◌, ◌%◌, ◌^◌, Bool, false, if◌then◌else◌, List, [], ◌∷◌}

-- what is seen of one who looks: its looks, how many told that the run is to stop, whether the newest did, and its mark
pub record Looked (M : Type 0) : Type 0 where
  pub looks : ℕ
  pub yes : ℕ
  pub last : Bool
  pub mark : M

-- n looks were made, of which only the last may have told so: none, or some
abbrev pub IsLooked : {M : Type 0} → ℕ → Bool → Looked M → Looked M → Type 0
IsLooked zero told before after = after ≡ before
IsLooked (suc n) told before after =
    (after.looks ≡ (before.looks + suc n) % 2 ^ 64) × (after.yes ≡ (before.yes + (if told then 1 else 0)) % 2 ^ 64) × (after.last ≡ told) ×
    (after.mark ≡ before.mark)

-- the looks at n boundaries, of which only the last may have told so
abbrev pub looks_made : ℕ → Bool → List Bool
looks_made zero told = []
looks_made (suc zero) told = told ∷ []
looks_made (suc (suc n)) told = false ∷ looks_made (suc n) told
