-- What a line that was read tells, as a line of the book.
use Rattle.std.specs.Prelude.{◌≡◌, ℕ, ◌+◌, min, List, Option, MatchOption}
use Rattle.record_spec.specs.declared.limits.TheConstants.{STEP_LIMIT}
use Rattle.record_spec.specs.Lines.{Line, event, out, comes, waits, line_ends, halts, IsText}
use Rattle.ice_answer.specs.Values.{why_of}
use Rattle.ice_verify.specs.declared.lines.Told.{Told}
use Rattle.ice_verify.specs.declared.lines.Told.TheVariants.{Comes, Waits, LineEnds, Halts, Out}

-- steps as the code counts them: as many as a record may have, or one more
abbrev pub counted : ℕ → ℕ
counted steps = min steps (STEP_LIMIT + 1)

abbrev pub Tells : Told → Line → Type 0
Tells (Comes bytes) line = line ≡ event (comes bytes.items)
Tells Waits line = line ≡ event waits
Tells LineEnds line = line ≡ event line_ends
Tells (Halts steps cause) line =
    (all : ℕ) × (steps ≡ counted all) × (line ≡ event (halts (record { steps = all; cause = why_of cause })))
Tells (Out bytes) line = line ≡ out bytes.items

-- a text is a line, and this tells it
abbrev pub IsTold : List ℕ → Told → Type 0
IsTold text told = (line : Line) × Tells told line × IsText text line

-- a text is read, or it is no line
abbrev pub IsRead : List ℕ → Option Told → Type 0
IsRead text result = MatchOption result ((line : Line) → IsText text line → ⊥) (IsTold text)
