-- What a line and a record do to the image that the code holds.
use Rattle.std.specs.Prelude.{◌≡◌, ℕ, Bool, true, false, List, Result, Ok, Err, MatchResult}
use Rattle.image_hex.specs.Records.{Record}
use Rattle.image_hex.specs.Hex.{Filling, Outcome, effect, line_effect}
use Rattle.image_hex.specs.declared.error.ImageError.{ImageError}
use Rattle.image_hex.specs.declared.filling.Filling.{Filling as Held}

-- what the code holds
abbrev pub image_shown : Held → Filling
image_shown held = record { base = held.base; bytes = held.bytes.items }

-- the lines behind are read on this image, or it is at its end
abbrev pub goes_on : Bool → Filling → (Filling → Outcome) → Outcome
goes_on true image behind = behind image
goes_on false image behind = Ok image.bytes

-- the step has this outcome, whatever the lines behind give
pub record Steps (step : (Filling → Outcome) → Outcome) (result : Result Bool ImageError) (after : Filling) : Type 0 where
  pub outcome : (behind : Filling → Outcome) → MatchResult result (λ more. step behind ≡ goes_on more after behind)
      (λ error. step behind ≡ Err error)

-- a record, or a line with its number, has this outcome
abbrev pub TakesRecord : Record → Filling → Result Bool ImageError → Filling → Type 0
TakesRecord record_ before result after = Steps (effect record_ before) result after

abbrev pub TakesLine : ℕ → List ℕ → Filling → Result Bool ImageError → Filling → Type 0
TakesLine number line before result after = Steps (line_effect number line before) result after
