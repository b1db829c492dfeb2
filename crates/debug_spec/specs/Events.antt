-- Break events: which are sent, with a pc and a cause that come from the program and the host, and from no planted word.
use Rattle.std.specs.Prelude.{◌≡◌, ◌⊎◌, ℕ, Bool, true, false, List, [], ◌∷◌, ◌++◌}
use Rattle.std.specs.List.{All}
use Rattle.part_spec.specs.Chip.{Chip}
use Rattle.avr_spec.specs.declared.target.Ahead.TheVariants.{Break as BreakAhead, Undefined as UndefinedAhead}
use Rattle.avr_spec.specs.Machine.{Machine, restarted}
use Rattle.avr_spec.specs.Step.{ahead}
use Rattle.line_spec.specs.Frames.{Frame}
use Rattle.line_spec.specs.Messages.{sign_off, single_step, forced_stop, reset, break_at, event_body}
use Rattle.line_spec.specs.Hearing.{Request, asks, event_number, Heard, request, dropped}
use Rattle.debug_spec.specs.Patch.{has}
use Rattle.debug_spec.specs.Stop.{Cause, breakpoint, forced, by_step, by_reset, own_break, undefined}
use Rattle.debug_spec.specs.Stop.{failed_write, cause_code, compared}
use Rattle.debug_spec.specs.Run.{End, stepped, after}
use Rattle.debug_spec.specs.Debugger.{launching, running, leaving, Debugger, listens, targets, run_out}
use Rattle.debug_spec.specs.Running.{line_end, launch_if_prepared, replant_failed, run_ended, MayEnd, step_of}
use Rattle.debug_spec.specs.Commands.{item, item_launched}

-- the frame of a break event: where the target stands, and why it stopped
abbrev pub event_of : Cause → Machine → Frame
event_of cause p = record { number = event_number; body = event_body (break_at p.pc (cause_code cause)) }

-- why the run that is out stops with the target in this state: an address of its set or of a comparator; a stop that was asked for; the
-- program's own BREAK, or its own word that does not run; or that the page behind its first step could not be written
abbrev pub HasReason : Chip → Debugger → Machine → Cause → Type 0
HasReason part s p breakpoint = (has (targets s) p.pc ≡ true) ⊎ (compared s.comparators p.pc ≡ true)
HasReason part s p forced = s.stop_asked ≡ true
HasReason part s p by_step = ⊥
HasReason part s p by_reset = ⊥
HasReason part s p own_break = ahead part p s.prog ≡ BreakAhead
HasReason part s p undefined = ahead part p s.prog ≡ UndefinedAhead
HasReason part s p failed_write = replant_failed s ≡ true

-- an end of the run that is out has a reason, and is told once with the target as the run leaves it; while the session ends it is not
pub record EndIsTold (planted : Bool) (part : Chip) (s : Debugger) (e : End) : Type 0 where
  pub reason : HasReason part s (after part (run_out planted s) e.steps) e.cause
  pub machine : (run_ended planted part e s).machine ≡ after part (run_out planted s) e.steps
  pub running : s.mode ≡ running →
      (run_ended planted part e s).sent ≡ s.sent ++ event_of e.cause (after part (run_out planted s) e.steps) ∷ []
  pub leaving : s.mode ≡ leaving → (run_ended planted part e s).sent ≡ s.sent

-- the events that a request is told by: of a single step, at a word of the program's own where it does not run; and of a reset
abbrev pub Tells : Bool → Chip → Request → Debugger → Frame → Type 0
Tells planted part (asks single_step) s frame =
    (frame ≡ event_of by_step (stepped part (step_of planted s))) ⊎
    ((frame ≡ event_of undefined s.machine) × (ahead part s.machine s.prog ≡ UndefinedAhead))
Tells planted part (asks reset) s frame = frame ≡ event_of by_reset (restarted s.machine)
Tells planted part _ s frame = ⊥

-- behind a request frames are sent that answer it, with its own number, or tell such an event
pub record RequestSends (planted : Bool) (part : Chip) (number : ℕ) (asked : Request) (s : Debugger) : Type 0 where
  pub more : List Frame
  pub sent : (item_launched planted part (request number asked) s).sent ≡ s.sent ++ more
  pub each : All (λ (frame : Frame). (frame.number ≡ number) ⊎ Tells planted part asked s frame) more

-- so each event that is sent has a reason: no host's frame that is heard as a request has the number of events, and nothing is sent
-- besides
pub record EventsHaveReasons : Type 0 where
  pub ends : (planted : Bool) (part : Chip) (s : Debugger) (e : End) → MayEnd planted part s e → EndIsTold planted part s e
  pub requests : (planted : Bool) (part : Chip) (number : ℕ) (asked : Request) (s : Debugger) → RequestSends planted part number asked s
  pub drops : (planted : Bool) (part : Chip) (count : ℕ) (s : Debugger) → (item_launched planted part (dropped count) s).sent ≡ s.sent
  pub line_end : (part : Chip) (held : List ℕ) (s : Debugger) → (line_end part held s).sent ≡ s.sent

-- a request that asks the run that is out to stop
abbrev pub asks_stop : Heard → Bool
asks_stop (request number (asks forced_stop)) = true
asks_stop (request number (asks sign_off)) = true
asks_stop _ = false

-- a stop is asked for by those alone, or by the end of the line; a run that is prepared has none asked for, and its launch and its end
-- ask for none
pub record StopsAreAsked : Type 0 where
  pub by_item : (planted : Bool) (part : Chip) (heard : Heard) (s : Debugger) → (item planted part heard s).stop_asked ≡ true →
      (s.stop_asked ≡ true) ⊎ (asks_stop heard ≡ true)
  pub prepared : (planted : Bool) (part : Chip) (heard : Heard) (s : Debugger) (number : ℕ) → ((other : ℕ) → s.mode ≡ launching other → ⊥) →
      (item planted part heard s).mode ≡ launching number → (item planted part heard s).stop_asked ≡ false
  pub launch : (s : Debugger) → (launch_if_prepared s).stop_asked ≡ s.stop_asked
  pub end : (planted : Bool) (part : Chip) (e : End) (s : Debugger) → (run_ended planted part e s).stop_asked ≡ s.stop_asked

-- a request that ends the session
abbrev pub asks_off : Heard → Bool
asks_off (request number (asks sign_off)) = true
asks_off _ = false

-- of all that is heard that alone makes the debugger listen no more, once the launch of a run that was prepared is answered
abbrev pub SignOffsEnd : Type 0
SignOffsEnd = (planted : Bool) (part : Chip) (heard : Heard) (s : Debugger) → listens s.mode ≡ true →
    listens (item_launched planted part heard s).mode ≡ false → asks_off heard ≡ true
