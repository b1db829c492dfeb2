-- What the code keeps of the book's debugger. Its target stands in a job, the bytes held back in a receiver, and the frames sent go out.
use Rattle.std.specs.Prelude.{ℕ, ◌+◌, ◌%◌, ◌^◌, Bool, true, false, List, Option, Some, None}
use Rattle.part_spec.specs.declared.part.Part.{Part}
use Rattle.line_spec.specs.Parameters.{Parameter}
use Rattle.debug_spec.specs.Debugger.{Mode, stopped, launching, running, programming, leaving, closed, Debugger}
use Rattle.flash_patch.specs.State.{PlanState}

-- the tool: what is kept beside the target. The count of dropped bytes is kept modulo 2^64
pub record ToolState : Type 0 where
  pub mode : Mode
  pub plan : PlanState
  pub run_to : Option ℕ
  pub parameters : List Parameter
  pub dropped : ℕ
  pub stop_asked : Bool

-- what the tool keeps of this debugger
abbrev pub kept_tool : Part → Debugger → ToolState
kept_tool part s = record {
  mode = s.mode;
  plan = record { part = part; prog = s.prog; soft = s.soft };
  run_to = s.run_to;
  parameters = s.parameters;
  dropped = s.dropped % 2 ^ 64;
  stop_asked = s.stop_asked;
}

-- so many bytes that are held are dropped, where the debugger listens
abbrev pub dropping_held : Bool → ℕ → ToolState → ToolState
dropping_held true count tool = record tool { dropped = (tool.dropped + count) % 2 ^ 64 }
dropping_held false count tool = tool

-- the number of the frame whose run is prepared
abbrev pub prepared_number : Mode → Option ℕ
prepared_number stopped = None
prepared_number (launching number) = Some number
prepared_number running = None
prepared_number programming = None
prepared_number leaving = None
prepared_number (closed restored) = None

-- the target is at home, and the session goes on
abbrev pub takes_requests : Mode → Bool
takes_requests stopped = true
takes_requests (launching number) = false
takes_requests running = false
takes_requests programming = true
takes_requests leaving = false
takes_requests (closed restored) = false
