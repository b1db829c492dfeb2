-- What one request is answered: a reply, and behind it events.
use Rattle.std.specs.Prelude.{◌≡◌, ◌≤◌, ℕ, List, ◌∷◌, ◌++◌, length}
use Rattle.line_spec.specs.Frames.{Frame}
use Rattle.line_spec.specs.Messages.{Response, response_body, okay, parameter, memory, program_counter, signed_on, refused}
use Rattle.line_spec.specs.Messages.{own_head, own_name, memory_limit, break_at, event_body}
use Rattle.line_spec.specs.Hearing.{event_number}
use Rattle.debug_spec.specs.Stop.{Cause, cause_code}
use Rattle.debug_spec.specs.Debugger.{Debugger}
use Rattle.script_laws.specs.Waiting.{Each, AreShort}

-- a response that fits a body, if it has bytes
abbrev pub IsShort : Response → Type 0
IsShort okay = Unit {0}
IsShort (parameter bytes) = length bytes ≤ 4
IsShort (memory bytes) = length bytes ≤ memory_limit
IsShort (program_counter address) = Unit {0}
IsShort (signed_on head name) = (head ≡ own_head) × (name ≡ own_name)
IsShort (refused refusal) = Unit {0}

-- a frame that tells where the target stopped, and why
pub record IsTold (frame : Frame) : Type 0 where
  pub address : ℕ
  pub cause : Cause
  pub is : frame ≡ record { number = event_number; body = event_body (break_at address (cause_code cause)) }

-- a request is answered by a reply, and then events
pub record IsAnswered (number : ℕ) (s t : Debugger) : Type 0 where
  pub response : Response
  pub short : AreShort s.parameters → IsShort response
  pub events : List Frame
  pub each : Each IsTold events
  pub few : length events ≤ 2
  pub sent : t.sent ≡ s.sent ++ record { number = number; body = response_body response } ∷ events
  pub table : AreShort s.parameters → AreShort t.parameters
