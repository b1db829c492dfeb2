-- The state of the debugger, which answers the host on the line and works on a target and its device.
use Rattle.std.specs.Prelude.{ℕ, ◌+◌, Bool, true, false, List, [], ◌∷◌, ◌++◌, replicate, Option, Some, None}
use Rattle.part_spec.specs.Chip.{Chip}
use Rattle.avr_spec.specs.Machine.{Machine, machine_start}
use Rattle.line_spec.specs.Frames.{Frame}
use Rattle.line_spec.specs.Messages.{Response, response_body, break_at, event_body}
use Rattle.line_spec.specs.Hearing.{event_number}
use Rattle.line_spec.specs.Parameters.{Parameter, parameters_at_start}
use Rattle.debug_spec.specs.Stop.{Cause, cause_code}
use Rattle.debug_spec.specs.Run.{Run, run_of}
use Rattle.debug_spec.specs.Device.{Device, synced}

-- what the debugger does: the target is stopped; a run is prepared, and the reply to the frame with this number waits for its
-- launch; a run is out; the flash is being programmed; a run is out and the session ends with it; or the session is closed, and its
-- restore failed or not
pub data Mode : Type 0 where
  stopped : Mode
  launching : (number : ℕ) → Mode
  running : Mode
  programming : Mode
  leaving : Mode
  closed : (restored : Bool) → Mode

-- the state: the mode; the target, at its start while a run is out; software breakpoints in rising order, comparators, and the
-- address to which a run goes; the program as last programmed, and the device; how many bytes were dropped; whether a stop was
-- asked for since the launch, and how many launches worked; the parameters; and the frames sent so far
pub record Debugger : Type 0 where
  pub mode : Mode
  pub machine : Machine
  pub soft : List ℕ
  pub comparators : List (Option ℕ)
  pub run_to : Option ℕ
  pub prog : List ℕ
  pub device : Device
  pub dropped : ℕ
  pub stop_asked : Bool
  pub launches : ℕ
  pub parameters : List Parameter
  pub sent : List Frame

-- the number of comparators
abbrev pub comparator_count : ℕ
comparator_count = 4

-- the debugger at the start of a session, once it has written the program into the device where that had other words
abbrev pub opened : Chip → List ℕ → Device → Debugger
opened part prog d = record {
  mode = stopped;
  machine = machine_start part;
  soft = [];
  comparators = replicate comparator_count None;
  run_to = None;
  prog = prog;
  device = (synced part prog d).device;
  dropped = 0;
  stop_asked = false;
  launches = 0;
  parameters = parameters_at_start;
  sent = [];
}

-- the debugger takes requests
abbrev pub listens : Mode → Bool
listens stopped = true
listens (launching number) = false
listens running = true
listens programming = true
listens leaving = false
listens (closed restored) = false

-- a run is out
abbrev pub is_out : Mode → Bool
is_out stopped = false
is_out (launching number) = false
is_out running = true
is_out programming = false
is_out leaving = true
is_out (closed restored) = false

-- what the parameter 'state of the target' reads (AVR067, 'Parameters': MCU_STATE)
abbrev pub state_number : Mode → ℕ
state_number stopped = 0x00
state_number (launching number) = 0x00
state_number running = 0x01
state_number programming = 0x02
state_number leaving = 0x01
state_number (closed restored) = 0x00

-- software breakpoints, and an address to which a run goes
abbrev pub targets_by : Option ℕ → List ℕ → List ℕ
targets_by None soft = soft
targets_by (Some address) soft = address ∷ soft

-- the breakpoints of a run
abbrev pub targets : Debugger → List ℕ
targets s = targets_by s.run_to s.soft

-- the run that is out, of the program or of the planted words
abbrev pub run_out : Bool → Debugger → Run
run_out planted s = run_of planted s.prog s.machine (targets s) s.comparators

-- a reply to the frame with this number is sent
abbrev pub replied : ℕ → Response → Debugger → Debugger
replied number response s = record s { sent = s.sent ++ record { number = number; body = response_body response } ∷ [] }

-- a break event is sent: where the target stopped, and why
abbrev pub told : Cause → Debugger → Debugger
told cause s =
    record s { sent = s.sent ++ record { number = event_number; body = event_body (break_at s.machine.pc (cause_code cause)) } ∷ [] }

-- so many bytes are dropped
abbrev pub dropping : ℕ → Debugger → Debugger
dropping count s = record s { dropped = s.dropped + count }
