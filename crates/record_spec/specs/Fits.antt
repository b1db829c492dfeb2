-- When a record fits a program: line by line the debugger that plants nothing does the same, over a device that holds the program and
-- makes each page write and each launch.
use Rattle.std.specs.Prelude.{◌≡◌, ℕ, ◌+◌, Bool, true, false, List, [], ◌∷◌, ◌++◌, Option, Some, None}
use Rattle.part_spec.specs.Chip.{Chip}
use Rattle.debug_spec.specs.Debugger.{listens}
use Rattle.debug_spec.specs.Device.{Device}
use Rattle.debug_spec.specs.Run.{End}
use Rattle.debug_spec.specs.Running.{MayEnd, run_ended}
use Rattle.debug_spec.specs.Replay.{bytes_sent}
use Rattle.debug_spec.specs.Schedule.{Session, line_ended}
use Rattle.debug_spec.specs.SessionLaws.{is_closed}
use Rattle.debug_spec.specs.Opening.{opening}
use Rattle.debug_spec.specs.Take.{TakesFrame, IsTake, launched_then}
use Rattle.record_spec.specs.Lines.{Event, comes, waits, line_ends, halts, Line, event, out}

-- where a record is: the session; the bytes that the last event sends, where the next line is to tell them; and the steps of its runs
pub record Point : Type 0 where
  pub session : Session
  pub owed : Option (List ℕ)
  pub steps : ℕ

-- the device holds the program, and makes all that is asked for
abbrev pub good_device : List ℕ → Device
good_device prog = record { words = prog; asked = []; outcomes = [] }

-- where a record of a program begins
abbrev pub beginning : Chip → List ℕ → Point
beginning part prog = record { session = opening part prog (good_device prog); owed = None; steps = 0 }

-- the run that is out ends so
abbrev pub halted_by : Chip → End → Session → Session
halted_by part end s = record { held = s.held; state = run_ended false part end s.state }

-- an event happens. Bytes come while no frame waits, and where one comes to wait it does so with the last of them; a frame that waits is
-- heard alone; the line may end until the session is closed; and a run that is out ends as it may
abbrev pub Happens : Chip → Event → Session → Session → Type 0
Happens part (comes bytes) before after = (listens before.state.mode ≡ true) ×
    (taken : Session) × IsTake false part bytes [] before taken × (after ≡ launched_then taken)
Happens part waits before after = (listens before.state.mode ≡ true) ×
    (taken : Session) × TakesFrame false part [] before taken × (after ≡ launched_then taken)
Happens part line_ends before after = (is_closed before.state.mode ≡ false) × (after ≡ line_ended part before)
Happens part (halts end) before after = MayEnd false part before.state end × (after ≡ halted_by part end before)

-- the steps of which a line tells
abbrev pub steps_in : Line → ℕ
steps_in (event (comes bytes)) = 0
steps_in (event waits) = 0
steps_in (event line_ends) = 0
steps_in (event (halts end)) = end.steps
steps_in (out bytes) = 0

-- a line stands in its place: an event where no bytes are to be told
abbrev pub is_placed : Option (List ℕ) → Line → Bool
is_placed None (event what) = true
is_placed None (out bytes) = false
is_placed (Some owed) (event what) = false
is_placed (Some owed) (out bytes) = true

-- an event happens, and sends these bytes
pub record Sends (part : Chip) (what : Event) (before after : Session) (bytes : List ℕ) : Type 0 where
  pub happens : Happens part what before after
  pub sends : bytes_sent after.state ≡ bytes_sent before.state ++ bytes

-- a line is true: an event that may happen, or the bytes that were sent
abbrev pub Follows : Chip → Line → Point → Point → Type 0
Follows part (event what) before after = (before.owed ≡ None) × (bytes : List ℕ) × (session : Session) ×
    Sends part what before.session session bytes ×
    (after ≡ record { session = session; owed = Some bytes; steps = before.steps + steps_in (event what) })
Follows part (out bytes) before after = (before.owed ≡ Some bytes) × (after ≡ record before { owed = None })

-- the lines are true, one by one
abbrev pub Reaches : Chip → List Line → Point → Point → Type 0
Reaches part [] before after = after ≡ before
Reaches part (line ∷ lines) before after = (between : Point) × Follows part line before between × Reaches part lines between after

-- a record fits: its lines are true from the beginning on, and with the last of them the session is closed and all that was sent is told
pub record Fits (part : Chip) (prog : List ℕ) (lines : List Line) : Type 0 where
  pub end : Point
  pub reaches : Reaches part lines (beginning part prog) end
  pub told : end.owed ≡ None
  pub closed : is_closed end.session.state.mode ≡ true
