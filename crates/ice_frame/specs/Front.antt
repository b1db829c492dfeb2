-- What stands at the front of some bytes, as `read_frame` answers.
use Rattle.std.specs.Prelude.{ℕ, ◌≤◌, List, length, drop}
use Rattle.line_spec.specs.Frames.{Frame, Begins, IsPartial, IsJunk}
use Rattle.ice_frame.specs.declared.frame.Frame.{Frame as Read}
use Rattle.ice_frame.specs.declared.frame.Cut.{Cut}
use Rattle.ice_frame.specs.declared.frame.Cut.TheVariants.{Whole, Partial, Junk}

-- the frame that the code's value stands for
abbrev pub frame_of : Read → Frame
frame_of read = record { number = read.seq; body = read.body.items }

-- the answer says what stands at the front of the bytes
abbrev pub IsFrontOf : List ℕ → Cut → Type 0
IsFrontOf bytes (Whole frame n) = Begins (frame_of frame) bytes (drop n bytes) × (n ≤ length bytes)
IsFrontOf bytes Partial = IsPartial bytes
IsFrontOf bytes Junk = IsJunk bytes
