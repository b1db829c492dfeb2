-- What the schedules worked by hand have in common.
use Rattle.std.proofs.Common.{◌≡◌, ℕ, ◌<◌, ◌^◌, true, List, [], ◌∷◌, ◌++◌, refl, arith}
use Rattle.std.specs.Prelude.{Contains}
use Rattle.line_spec.specs.Frames.{Frame, IsFrame, IsPartial, bytes_of}
use Rattle.line_spec.specs.Cut.{Item, whole, Cuts}
use Rattle.line_spec.specs.Messages.{Command, go, forced_stop, sign_off, IsCommand, ignored_lengths}
use Rattle.line_spec.specs.Hearing.{Heard, request, asks, Hears}
use Rattle.line_spec.proofs.Bytes.{IsBytes-nil, IsBytes-cons}
use Rattle.line_spec.proofs.FrameBytes.{check_bytes, bytes_of-headed}
use Rattle.debug_spec.specs.Run.{End, end_by}
use Rattle.debug_spec.specs.Debugger.{is_out, run_out}
use Rattle.debug_spec.specs.Running.{replant_failed, run_ended}
use Rattle.debug_spec.specs.Schedule.{Session, heard_all, IsChunk, IsHalted, line_ended, Note, bytes, halted, Takes, IsSchedule}
use Rattle.debug_spec.specs.Opening.{opening}
use Rattle.debug_spec.specs.inside.Examples.{small, filled, erased_device}
use Rattle.debug_spec.specs.inside.ScheduleExamples.{asking, framed, begun}
use Rattle.debug_spec.proofs.RunEnds.{end_by_is_end}

-- a command of one byte in a frame
pub small_frame : (number code : ℕ) → number < 2 ^ 16 → code < 256 → IsFrame (record { number = number; body = code ∷ [] })
small_frame number code low byte = record { number = low; body = omega arith; bytes = IsBytes-cons code [] byte IsBytes-nil }

pub hears_command : (number : ℕ) (command : Command) → number < 256 → IsCommand command → Contains (ignored_lengths command) 0 →
    Hears (whole (asking number command)) (request number (asks command))
hears_command number command low valid none = (
  λ e. absurd (omega (arith, low, e)),
  refl,
  record { valid = valid; ignored = []; any_bytes = IsBytes-nil; so_many = none; made = refl },
)

-- a frame stands at the front
pub cuts_one : (frame : Frame) (behind rest : List ℕ) (items : List Item) → IsFrame frame → Cuts behind items rest →
    Cuts (bytes_of frame ++ behind) (whole frame ∷ items) rest
cuts_one frame behind rest items valid c = (behind, record { valid = valid; split = refl }, c)

-- less than a frame
pub begun_partial : IsPartial begun
begun_partial =
    let frame : Frame = record { number = 0; body = [] } in
    record {
      frame = frame;
      missing = 0 ∷ 0 ∷ 0 ∷ 0 ∷ 0 ∷ 0x0E ∷ check_bytes frame;
      valid = record { number = omega arith; body = omega arith; bytes = IsBytes-nil };
      some_missing = omega arith;
      split = bytes_of-headed frame;
    }

-- a session over a program that jumps to itself, and a chunk that its requests came in
abbrev pub at_first : Session
at_first = opening small (filled (0xcfff ∷ [])) (erased_device small [])

abbrev pub told_all : List Heard → List ℕ → Session
told_all heard held = record { held = held; state = heard_all true small heard at_first.state }

abbrev pub going : List ℕ → Session
going held = told_all (request 0 (asks go) ∷ []) held

abbrev pub stopping : Session
stopping = told_all (request 0 (asks go) ∷ request 1 (asks forced_stop) ∷ []) begun

-- the run that is out is forced to end behind five steps
abbrev pub five_steps : Session → End
five_steps s = end_by small (run_out true s.state) (replant_failed s.state) 5

abbrev pub over_by : Session → Session
over_by s = record { held = s.held; state = run_ended true small (five_steps s) s.state }

pub halts_by : (s : Session) → is_out s.state.mode ≡ true → s.state.stop_asked ≡ true → IsHalted true small s (over_by s)
halts_by s out asked = record {
  end = five_steps s;
  may = record {
    out = out;
    is_end = end_by_is_end small (run_out true s.state) (replant_failed s.state) 5 (omega arith);
    asked = λ c. asked;
  };
  is = refl;
}

pub hears_go : (behind : List ℕ) → IsPartial behind → IsChunk true small (framed (asking 0 go ∷ []) behind) at_first (going behind)
hears_go behind partial = record {
  items = whole (asking 0 go) ∷ [];
  behind = behind;
  heard = request 0 (asks go) ∷ [];
  cuts = cuts_one (asking 0 go) behind behind [] (small_frame 0 0x08 (omega arith) (omega arith)) refl;
  hears = (hears_command 0 go (omega arith) tt (0, omega arith, refl), tt);
  state = refl;
  holds = (partial, refl);
}

-- a note that ends the line, with a run out and a frame begun
pub line_ends_by : (note : Note) → Takes true small note (going begun) (line_ended small (going begun)) →
    IsSchedule true small (bytes (framed (asking 0 go ∷ []) begun) ∷ note ∷ bytes begun ∷ halted 1 ∷ []) at_first
    (over_by (line_ended small (going begun)))
line_ends_by note h =
    let s = line_ended small (going begun) in
    (going begun, hears_go begun begun_partial, (s, h, (s, refl, (over_by s, halts_by s refl refl, refl))))

pub hears_both : IsChunk true small (framed (asking 0 go ∷ asking 1 forced_stop ∷ []) begun) at_first stopping
hears_both = record {
  items = whole (asking 0 go) ∷ whole (asking 1 forced_stop) ∷ [];
  behind = begun;
  heard = request 0 (asks go) ∷ request 1 (asks forced_stop) ∷ [];
  cuts = cuts_one (asking 0 go) (framed (asking 1 forced_stop ∷ []) begun) begun (whole (asking 1 forced_stop) ∷ [])
      (small_frame 0 0x08 (omega arith) (omega arith))
      (cuts_one (asking 1 forced_stop) begun begun [] (small_frame 1 0x0a (omega arith) (omega arith)) refl);
  hears = (
    hears_command 0 go (omega arith) tt (0, omega arith, refl),
    (hears_command 1 forced_stop (omega arith) tt (0, omega arith, refl), tt),
  );
  state = refl;
  holds = (begun_partial, refl);
}

pub hears_off : IsChunk true small (framed (asking 0 sign_off ∷ []) begun) at_first (told_all (request 0 (asks sign_off) ∷ []) [])
hears_off = record {
  items = whole (asking 0 sign_off) ∷ [];
  behind = begun;
  heard = request 0 (asks sign_off) ∷ [];
  cuts = cuts_one (asking 0 sign_off) begun begun [] (small_frame 0 0x00 (omega arith) (omega arith)) refl;
  hears = (hears_command 0 sign_off (omega arith) tt (0, omega arith, refl), tt);
  state = refl;
  holds = refl;
}
