-- What is said of a line by one who checks a record line by line: that it is no line of a record in its place, that the record has too
-- many steps, that no record goes on so that fits, or nothing.
use Rattle.std.specs.Prelude.{◌≡◌, ℕ, ◌+◌, ◌<◌, ◌≤◌, true, List, length}
use Rattle.part_spec.specs.Chip.{Chip}
use Rattle.record_spec.specs.Lines.{Line, IsText}
use Rattle.record_spec.specs.Fits.{Point, is_placed, steps_in, Follows}
use Rattle.record_spec.specs.declared.limits.TheConstants.{LINE_LIMIT, STEP_LIMIT}

-- a text is a line in its place
pub record Reads (at : Point) (text : List ℕ) (line : Line) : Type 0 where
  pub short : length text ≤ LINE_LIMIT
  pub is : IsText text line
  pub placed : is_placed at.owed line ≡ true

-- it is none
abbrev pub IsBad : Point → List ℕ → Type 0
IsBad at text = (line : Line) → Reads at text line → ⊥

-- it is one with which the record has too many steps
abbrev pub IsLong : Point → List ℕ → Type 0
IsLong at text = (line : Line) × Reads at text line × (STEP_LIMIT < at.steps + steps_in line)

-- it is one, and not true
abbrev pub IsRefuted : Chip → Point → List ℕ → Type 0
IsRefuted part at text = (line : Line) × Reads at text line × (at.steps + steps_in line ≤ STEP_LIMIT) ×
    ((after : Point) → Follows part line at after → ⊥)

-- it is one, and true
abbrev pub GoesOn : Chip → Point → List ℕ → Point → Type 0
GoesOn part at text after = (line : Line) × Reads at text line × (at.steps + steps_in line ≤ STEP_LIMIT) × Follows part line at after
