-- How the schedules of `src/schedule_rows.rt` are set up and read.
use Rattle.std.specs.Prelude.{◌≡◌, ℕ, true, List, [], ◌∷◌, ◌++◌}
use Rattle.line_spec.specs.Frames.{Frame, bytes_of}
use Rattle.line_spec.specs.Messages.{Command, command_body}
use Rattle.debug_spec.specs.Schedule.{Session, Note, IsSchedule}
use Rattle.debug_spec.specs.Opening.{opening}
use Rattle.debug_spec.specs.inside.Examples.{small, filled, erased_device, Shown, shown}

-- the frame of a command, with this number
abbrev pub asking : ℕ → Command → Frame
asking number command = record { number = number; body = command_body command [] }

-- the bytes of frames, and others behind them
abbrev pub framed : List Frame → List ℕ → List ℕ
framed [] rest = rest
framed (frame ∷ frames) rest = bytes_of frame ++ framed frames rest

-- the first two bytes of a frame
abbrev pub begun : List ℕ
begun = 0x1b ∷ 0 ∷ []

-- with a program of these words, these notes are a schedule of the patched debugger that holds such bytes at its end, and shows this
pub record IsServed (words : List ℕ) (notes : List Note) (held : List ℕ) (what : Shown) : Type 0 where
  pub after : Session
  pub schedule : IsSchedule true small notes (opening small (filled words) (erased_device small [])) after
  pub holds : after.held ≡ held
  pub shows : shown after.state ≡ what
