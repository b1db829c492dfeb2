-- The laws of records, as facts.
use Rattle.std.specs.Prelude.{◌≡◌, ◌↔◌, ℕ, ◌+◌, ◌<◌, ◌≤◌, List, [], ◌∷◌, ◌++◌, length, Option, Some, None}
use Rattle.std.specs.List.{All}
use Rattle.part_spec.specs.Chip.{Chip}
use Rattle.debug_spec.specs.Schedule.{Session}
use Rattle.debug_spec.specs.Take.{FrameWaits}
use Rattle.record_spec.specs.Lines.{Line, comes, out, IsText}
use Rattle.record_spec.specs.Fits.{Point, Happens, steps_in, Follows, Reaches, beginning, Fits}
use Rattle.record_spec.specs.Judging.{Reads, IsRefuted, GoesOn}
use Rattle.record_spec.specs.declared.limits.TheConstants.{LINE_LIMIT, STEP_LIMIT}

-- a text is one line at most
abbrev pub OneLine : Type 0
OneLine = (text : List ℕ) (line other : Line) → IsText text line → IsText text other → line ≡ other

-- a line leads to one point only
abbrev pub OneWay : Type 0
OneWay = (part : Chip) (line : Line) (before after other : Point) → Follows part line before after → Follows part line before other →
    after ≡ other

-- bytes come in only where no whole frame waits
abbrev pub ComesAlone : Type 0
ComesAlone = (part : Chip) (bytes : List ℕ) (before after : Session) → 0 < length bytes → Happens part (comes bytes) before after →
    FrameWaits before.held → ⊥

-- the lines at the front of a record that fits are true
abbrev pub FrontsAreTrue : Type 0
FrontsAreTrue = (part : Chip) (prog : List ℕ) (lines more : List Line) → Fits part prog (lines ++ more) →
    (at : Point) × Reaches part lines (beginning part prog) at

-- a line can be written: it has a text that is short enough
abbrev pub HasText : Line → Type 0
HasText line = (text : List ℕ) × (length text ≤ LINE_LIMIT) × IsText text line

-- the line that tells the bytes that are still to be told, if any are
abbrev pub telling : Option (List ℕ) → List Line
telling None = []
telling (Some bytes) = out bytes ∷ []

-- lines that are true are the front of a record that fits: what is still to be told is told, and lines behind it, each with a text and
-- all with one step more at most, close the session
abbrev pub FrontsGoOn : Type 0
FrontsGoOn = (part : Chip) (prog : List ℕ) (lines : List Line) (at : Point) → Reaches part lines (beginning part prog) at →
    (more : List Line) × All HasText more ×
    (fits : Fits part prog (lines ++ (telling at.owed ++ more))) × (fits.end.steps ≤ at.steps + 1)

-- a record that fits begins with these lines and this one
abbrev pub SomeFits : Chip → List ℕ → List Line → Line → Type 0
SomeFits part prog lines line = (more : List Line) × Fits part prog (lines ++ line ∷ more)

-- behind true lines a text that is read as a line is true exactly where some record that fits begins with them and the line, and
-- refuted exactly where none does
pub record IsJudged (part : Chip) (prog : List ℕ) (lines : List Line) (at : Point) (text : List ℕ) (line : Line) : Type 0 where
  pub is_true : ((after : Point) × GoesOn part at text after) ↔ SomeFits part prog lines line
  pub is_refuted : IsRefuted part at text ↔ (SomeFits part prog lines line → ⊥)

-- so it is with each text that does not make the record too long
abbrev pub RefutedExactly : Type 0
RefutedExactly = (part : Chip) (prog : List ℕ) (lines : List Line) (at : Point) (text : List ℕ) (line : Line) →
    Reaches part lines (beginning part prog) at → Reads at text line → at.steps + steps_in line ≤ STEP_LIMIT →
    IsJudged part prog lines at text line
