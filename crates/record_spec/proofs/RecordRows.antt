-- What the records worked by hand have in common.
use Rattle.std.proofs.Common.{◌≡◌, ℕ, ◌<◌, false, List, [], ◌∷◌, ◌++◌, length, take, drop, refl, sym, ap, ◌∙◌, subst, arith, append-nil, length-drop}
use Rattle.std.proofs.lemmas.List.{take-append-drop}
use Rattle.part_spec.specs.Chip.{Chip}
use Rattle.line_spec.specs.Frames.{Frame, IsFrame, IsPartial, bytes_of}
use Rattle.line_spec.specs.Cut.{whole}
use Rattle.line_spec.specs.Hearing.{Heard, request, asks, Hears}
use Rattle.line_spec.specs.Messages.{sign_off, go}
use Rattle.debug_spec.specs.Debugger.{dropping}
use Rattle.debug_spec.specs.Commands.{item}
use Rattle.debug_spec.specs.Schedule.{Session}
use Rattle.debug_spec.specs.Take.{goes_on, FrameWaits, Leaves, TakesFrame}
use Rattle.line_spec.proofs.Cuts.{no_junk_partial, IsPartial-nil}
use Rattle.debug_spec.specs.Run.{End, end_by}
use Rattle.debug_spec.specs.Debugger.{run_out}
use Rattle.debug_spec.specs.Running.{replant_failed, MayEnd}
use Rattle.debug_spec.specs.Schedule.{line_ended}
use Rattle.debug_spec.specs.Take.{launched_then}
use Rattle.debug_spec.specs.inside.Examples.{small, filled}
use Rattle.debug_spec.specs.inside.ScheduleExamples.{asking}
use Rattle.debug_spec.proofs.RunEnds.{end_by_is_end}
use Rattle.debug_spec.proofs.ServedRows.{small_frame, hears_command}
use Rattle.debug_spec.proofs.TakeLemmas.{none_waits}
use Rattle.record_spec.specs.Fits.{beginning, halted_by}

-- a front of a frame is less than a frame
front_partial : (frame : Frame) (k : ℕ) → IsFrame frame → k < length (bytes_of frame) → IsPartial (take k (bytes_of frame))
front_partial frame k valid less = record {
  frame = frame;
  missing = drop k (bytes_of frame);
  valid = valid;
  some_missing = omega (arith, less, length-drop k (bytes_of frame));
  split = sym (take-append-drop k (bytes_of frame));
}

-- one whole frame comes in where nothing is held, and nothing behind it
pub frame_comes : (part : Chip) (frame : Frame) (heard : Heard) (before after : Session) → IsFrame frame → before.held ≡ [] →
    Hears (whole frame) heard → (let s = item false part heard (dropping 0 before.state) in Leaves (goes_on s.mode) [] s after) →
    TakesFrame false part (bytes_of frame) before after
frame_comes part frame heard before after valid none hears leaves = record {
  ahead = [];
  frame = frame;
  behind = [];
  heard = heard;
  cuts = ([], record { valid = valid; split = ap (λ (h : List ℕ). h ++ bytes_of frame) none ∙ sym (append-nil (bytes_of frame)) }, refl);
  no_sooner = λ k less w.
      let x = take k (bytes_of frame) in
      let so : FrameWaits x = subst (λ (h : List ℕ). FrameWaits (h ++ x)) none w in
      none_waits x x so.2 [] so.0 so.1 refl (front_partial frame k valid less) so.3;
  hears = hears;
  leaves = leaves;
}

-- what is behind a frame that ends the session
abbrev pub signed_off : Chip → List ℕ → Session
signed_off part prog = record { held = []; state = item false part (request 0 (asks sign_off)) (dropping 0 (beginning part prog).session.state) }

-- the frame of a SIGN_OFF comes in at the beginning
pub sign_off_comes : (part : Chip) (prog : List ℕ) → TakesFrame false part (bytes_of (asking 0 sign_off)) (beginning part prog).session (signed_off part prog)
sign_off_comes part prog = frame_comes part (asking 0 sign_off) (request 0 (asks sign_off)) (beginning part prog).session (signed_off part prog)
    (small_frame 0 0x00 (omega arith) (omega arith)) refl (hears_command 0 sign_off (omega arith) tt (0, omega arith, refl)) refl

-- a session over a program that jumps to itself, with a run launched, the line ended, and the run forced to end behind five steps
abbrev pub at_first : Session
at_first = (beginning small (filled (0xcfff ∷ []))).session

abbrev pub prepared_then : Session
prepared_then = record { held = []; state = dropping 0 (item false small (request 0 (asks go)) (dropping 0 at_first.state)) }

abbrev pub going : Session
going = launched_then prepared_then

abbrev pub left_then : Session
left_then = line_ended small going

abbrev pub five_steps : End
five_steps = end_by small (run_out false left_then.state) (replant_failed left_then.state) 5

abbrev pub over_then : Session
over_then = halted_by small five_steps left_then

pub go_comes : TakesFrame false small (bytes_of (asking 0 go)) at_first prepared_then
go_comes = frame_comes small (asking 0 go) (request 0 (asks go)) at_first prepared_then
    (small_frame 0 0x08 (omega arith) (omega arith)) refl (hears_command 0 go (omega arith) tt (0, omega arith, refl))
    ([], refl, λ j. no_junk_partial [] j IsPartial-nil, refl)

pub five_steps_may : MayEnd false small left_then.state five_steps
five_steps_may = record {
  out = refl;
  is_end = end_by_is_end small (run_out false left_then.state) (replant_failed left_then.state) 5 (omega arith);
  asked = λ c. refl;
}
