-- How the records of `src/rows.rt` are set up and read.
use Rattle.std.specs.Prelude.{List, ℕ, [], ◌∷◌}
use Rattle.debug_spec.specs.Run.{End}
use Rattle.record_spec.specs.Lines.{Line, comes, line_ends, halts, event, out}

-- the frame of a SIGN_OFF of number 0, and of the reply OK to it
abbrev pub sign_off_bytes : List ℕ
sign_off_bytes = 0x1b ∷ 0 ∷ 0 ∷ 1 ∷ 0 ∷ 0 ∷ 0 ∷ 0x0e ∷ 0 ∷ 0x7a ∷ 0x86 ∷ []

abbrev pub okay_bytes : List ℕ
okay_bytes = 0x1b ∷ 0 ∷ 0 ∷ 1 ∷ 0 ∷ 0 ∷ 0 ∷ 0x0e ∷ 0x80 ∷ 0x72 ∷ 0x02 ∷ []

-- the same with another last digit
abbrev pub other_bytes : List ℕ
other_bytes = 0x1b ∷ 0 ∷ 0 ∷ 1 ∷ 0 ∷ 0 ∷ 0 ∷ 0x0e ∷ 0x80 ∷ 0x72 ∷ 0x03 ∷ []

-- the record of a session that only signs off
abbrev pub signs_off : List Line
signs_off = event (comes sign_off_bytes) ∷ out okay_bytes ∷ []

-- the frame of a GO of number 0
abbrev pub go_bytes : List ℕ
go_bytes = 0x1b ∷ 0 ∷ 0 ∷ 1 ∷ 0 ∷ 0 ∷ 0 ∷ 0x0e ∷ 0x08 ∷ 0x32 ∷ 0x0a ∷ []

-- the record of a session whose line ends while a run is out, which then ends so
abbrev pub leaves_by : End → List Line
leaves_by end =
    event (comes go_bytes) ∷ out okay_bytes ∷ event line_ends ∷ out [] ∷ event (halts end) ∷ out [] ∷ []
