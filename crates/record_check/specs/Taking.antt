-- What a check has taken.
use Rattle.std.specs.Prelude.{◌≡◌, ℕ, suc, ◌<◌, ◌≤◌, false, List, ◌++◌, Option, None, Some, length}
use Rattle.part_spec.specs.declared.part.Part.{Part}
use Rattle.part_spec.specs.Chip.{chip_of}
use Rattle.shell_spec.specs.Text.{IsOpen}
use Rattle.record_spec.specs.declared.limits.TheConstants.{LINE_LIMIT}
use Rattle.record_spec.specs.Fits.{Point}
use Rattle.ice_verify.specs.Checking.{IsSound, StandsAt}
use Rattle.ice_verify.specs.declared.verifier.Verdict.{Verdict}
use Rattle.record_check.specs.Answers.{Begins, Stops}
use Rattle.record_check.specs.declared.checker.Checker.{Checker}

-- no line has a verdict
pub record IsGoing (checker : Checker) : Type 0 where
  pub sound : IsSound checker.verifier
  pub fresh : checker.verifier.judged ≡ false

-- the bytes taken are true lines, and a front of one
pub record HasTaken (part : Part) (prog taken : List ℕ) (checker : Checker) : Type 0 where
  pub texts : List (List ℕ)
  pub at : Point
  pub begins : Begins (chip_of part) prog taken texts checker.held.items at
  pub unended : IsOpen checker.held.items
  pub short : length checker.held.items ≤ LINE_LIMIT
  pub stands : StandsAt part checker.verifier at
  pub counted : checker.lines ≡ length texts

-- all of them are such, or the last is the end of the first line that has a verdict
abbrev pub Takes : Part → (prog taken : List ℕ) → Option Verdict → Checker → Type 0
Takes part prog taken None checker = HasTaken part prog taken checker
Takes part prog taken (Some verdict) checker = Stops (chip_of part) prog taken verdict (suc checker.lines)

-- a chunk is taken behind others, or only a front of it, which ends with that line
abbrev pub TakesChunk : Part → (prog taken chunk : List ℕ) → Option Verdict → Checker → Type 0
TakesChunk part prog taken chunk None checker = HasTaken part prog (taken ++ chunk) checker
TakesChunk part prog taken chunk (Some verdict) checker = (front behind : List ℕ) × (chunk ≡ front ++ behind) ×
    (length behind < length chunk) × Stops (chip_of part) prog (taken ++ front) verdict (suc checker.lines)
