-- What one call of the emulator does.
use Rattle.std.specs.Prelude.{◌≡◌, ◌<◌, ◌≤◌, ◌+◌, ℕ, Bool, true, false, List, [], ◌++◌, length, take, drop, Option, None, Ok, Err, IfSome, is_ok, ⊤}
use Rattle.part_spec.specs.declared.part.Part.{Part}
use Rattle.part_spec.specs.Chip.{Chip, chip_of}
use Rattle.line_spec.specs.Frames.{Frame, IsPartial}
use Rattle.ice_recv.specs.Received.{Received}
use Rattle.line_spec.specs.Cut.{whole}
use Rattle.line_spec.specs.Hearing.{Heard, Hears, request, dropped}
use Rattle.ice_base.specs.Counts.{Rose}
use Rattle.debug_spec.specs.Device.{Asked}
use Rattle.debug_spec.specs.Moved.{Flash}
use Rattle.debug_spec.specs.Debugger.{Mode, stopped, launching, running, programming, leaving, closed, listens, is_out}
use Rattle.debug_spec.specs.Commands.{item}
use Rattle.debug_spec.specs.Schedule.{Session, IsHalted, line_ended}
use Rattle.debug_spec.specs.Take.{TakesFrame, TakesNone}
use Rattle.debug_spec.specs.Carries.{Carries}
use Rattle.run_control.specs.declared.job.Job.{Job}
use Rattle.run_control.specs.declared.job.Halt.TheVariants.{Forced}
use Rattle.run_control.specs.declared.runner.Done.{Done}
use Rattle.run_control.specs.Ends.{EndsJob}
use Rattle.run_control.specs.Runs.{MayAdvance}
use Rattle.ice_answer.specs.Kept.{ToolState}
use Rattle.ice_answer.specs.Does.{at}
use Rattle.ice_answer.specs.Stopping.{request_to_stop}
use Rattle.ice_emul.specs.Asking.{DoesAsking}
use Rattle.ice_emul.specs.Launching.{IsOwn, page_behind}
use Rattle.ice_emul.specs.Standing.{IsHeld, IsLaunched, held, StandsFor}
use Rattle.ice_emul.specs.declared.emulator.Emulator.{Emulator}
use Rattle.ice_emul.specs.declared.emulator.Input.{Input}
use Rattle.ice_emul.specs.declared.emulator.Input.TheVariants.{Bytes, LineEnd, Halted}
use Rattle.ice_emul.specs.declared.emulator.Next.{Next}
use Rattle.ice_emul.specs.declared.emulator.Next.TheVariants.{Idle, Answered, Launch, RaiseStop, Closed}
use Rattle.ice_emul.specs.declared.emulator.Taken.{Taken}

-- what is heard asks the run that is out to stop
abbrev pub heard_to_stop : Heard → Bool
heard_to_stop (request number asked) = request_to_stop asked
heard_to_stop (dropped count) = false

-- a launch is prepared
abbrev pub is_launching : Mode → Bool
is_launching stopped = false
is_launching (launching number) = true
is_launching running = false
is_launching programming = false
is_launching leaving = false
is_launching (closed restored) = false

-- what is to be done next tells where the emulator then is, with its target's job
abbrev pub NextTells : {F : Type 0} → Next F → (before after : Emulator F) → Job F → Type 0
NextTells Idle before after job = after.tool.mode ≡ before.tool.mode
NextTells Answered before after job = listens after.tool.mode ≡ true
NextTells (Launch own) before after job = (job ≡ own) × (is_launching after.tool.mode ≡ true)
NextTells RaiseStop before after job = (is_out after.tool.mode ≡ true) × (after.tool.stop_asked ≡ true)
NextTells (Closed restored) before after job = after.tool.mode ≡ closed (is_ok restored)

-- what a run that is out is launched for stays: the program, its breakpoints, and the address to which it goes
abbrev pub KeepsRun : ToolState → ToolState → Type 0
KeepsRun before after = (after.plan ≡ before.plan) × (after.run_to ≡ before.run_to)

-- nothing is to be done
abbrev pub IsIdle : {F : Type 0} → Next F → Type 0
IsIdle Idle = ⊤
IsIdle Answered = ⊥
IsIdle (Launch own) = ⊥
IsIdle RaiseStop = ⊥
IsIdle (Closed restored) = ⊥

-- bytes of the line end no run; and while one is out, none is launched and the session is not closed
abbrev pub StaysOut : {F : Type 0} → Next F → (before after : Mode) → Type 0
StaysOut Idle before after = ⊤
StaysOut Answered before after = is_out before ≡ true → is_out after ≡ true
StaysOut (Launch own) before after = is_out before ≡ false
StaysOut RaiseStop before after = ⊤
StaysOut (Closed restored) before after = is_out before ≡ false

-- with the end of the line the session is closed, or the run that is out is asked to stop
abbrev pub EndsLine : {F : Type 0} → Next F → (before after : Mode) → Type 0
EndsLine Idle before after = ⊥
EndsLine Answered before after = ⊥
EndsLine (Launch own) before after = ⊥
EndsLine RaiseStop before after = (is_out before ≡ true) × (after ≡ leaving)
EndsLine (Closed restored) before after = is_out before ≡ false

-- and so by what a call takes
abbrev pub StaysOutThen : {F : Type 0} → Input F → Next F → (before after : Mode) → Type 0
StaysOutThen (Bytes bytes) next before after = StaysOut next before after
StaysOutThen LineEnd next before after = EndsLine next before after
StaysOutThen (Halted done) next before after = ⊤

-- a frame is taken off what was held and used: some bytes were, where less than a frame was held
abbrev pub TakesOne : ℕ → (before after : List ℕ) → Type 0
TakesOne used before after = (length after < length before + used) × (IsPartial before → 0 < used)

-- how many of the bytes are used: where nothing is to be done all are, and less than a frame is held while the debugger listens; else a
-- frame is taken off; and no more is held than was held and used
abbrev pub UsesUp : {F : Type 0} → Next F → (all used : ℕ) → (before : Received) → (after : Emulator F) → Type 0
UsesUp Idle all used before after = (used ≡ all) × (listens after.tool.mode ≡ true → IsPartial after.receiver.held) ×
    (length after.receiver.held ≤ length before.held + used)
UsesUp Answered all used before after = TakesOne used before.held after.receiver.held
UsesUp (Launch own) all used before after = TakesOne used before.held after.receiver.held
UsesUp RaiseStop all used before after = TakesOne used before.held after.receiver.held
UsesUp (Closed restored) all used before after = TakesOne used before.held after.receiver.held

-- and so of a call; no other one changes what is held
abbrev pub UsesUpThen : {F : Type 0} → Input F → Taken F → (before after : Emulator F) → Type 0
UsesUpThen (Bytes bytes) taken before after = UsesUp taken.next (length bytes.now) taken.used before.receiver after
UsesUpThen LineEnd taken before after = after.receiver ≡ before.receiver
UsesUpThen (Halted done) taken before after = after.receiver ≡ before.receiver

-- the same with no regard to a job: a job that is to be launched is one as it is launched
abbrev pub NextStands : {F : Type 0} → Flash F → (F → Part) → Next F → (before after : Emulator F) → Type 0
NextStands flash part_of Idle before after = (after.tool.mode ≡ before.tool.mode) × (after.tool.stop_asked ≡ before.tool.stop_asked) ×
    KeepsRun before.tool after.tool
NextStands flash part_of Answered before after = (listens after.tool.mode ≡ true) ×
    (is_out after.tool.mode ≡ true →
    (is_out before.tool.mode ≡ true) × (after.tool.stop_asked ≡ before.tool.stop_asked) × KeepsRun before.tool after.tool)
NextStands flash part_of (Launch own) before after = (is_launching after.tool.mode ≡ true) × IsLaunched part_of after.tool own ×
    MayAdvance flash part_of own
NextStands flash part_of RaiseStop before after = (is_out after.tool.mode ≡ true) × (after.tool.stop_asked ≡ true) ×
    (is_out before.tool.mode ≡ true) × KeepsRun before.tool after.tool
NextStands flash part_of (Closed restored) before after = after.tool.mode ≡ closed (is_ok restored)

-- the session is closed with a fault only where the count of the flash rose
abbrev pub ClosesFor : {F : Type 0} → Flash F → Next F → (from : F) → Option (Job F) → Type 0
ClosesFor flash next from target =
    next ≡ Closed (Err (record {})) → IfSome target (λ now. Rose (flash.faults from) (flash.faults now.flash))

-- this was asked of the device
abbrev pub Asks : List Asked → Session → Session → Type 0
Asks asked before after = after.state.device.asked ≡ before.state.device.asked ++ asked

-- what one call does: the target's job then, what is told of it, and the sessions in which the flash moved, with what was asked; of a job
-- that is out nothing is
pub record DoesCall {F : Type 0} (flash : Flash F) (part_of : F → Part) (Goes : Session → Session → Type 0) (before : Emulator F)
    (job : Job F) (out : List ℕ) (next : Next F) (after : Emulator F) : Type 0 where
  pub now : Job F
  pub is : IsHeld part_of after now
  pub tells : NextTells next before after now
  pub stays : before.target ≡ None → after.target ≡ None → now ≡ job
  pub part : after.tool.plan.part ≡ before.tool.plan.part
  pub asks : List Asked
  pub carries : Carries flash (λ h. h.job.flash) (StandsFor flash)
      (λ s t. Goes s t × (t.state.launches ≡ s.state.launches) × Asks asks s t) (held before job) out (held after now)
  pub same_asks : carries.asks ≡ asks
  pub mute : before.target ≡ None → after.target ≡ None → carries.asks ≡ []

-- a job that is to be launched: its first step is not tested, and behind it the breakpoint at its start is planted again
abbrev pub armed : {F : Type 0} → ToolState → Job F → Job F
armed tool job = record job { fresh = true; replant = page_behind tool job.core.pc }

-- the session is closed, and its flash restored or not
abbrev pub IsClosed : {F : Type 0} → Bool → Next F → Type 0
IsClosed true next = next ≡ Closed (Ok tt)
IsClosed false next = next ≡ Closed (Err (record {}))

-- what is to be done next where the target was at home
abbrev pub GoesOnBy : {F : Type 0} → Mode → Emulator F → Job F → Next F → Emulator F → Type 0
GoesOnBy stopped before own next after = (next ≡ Answered) × (after ≡ before)
GoesOnBy (launching number) before own next after = (next ≡ Launch (armed before.tool own)) × (after ≡ record before { target = None })
GoesOnBy running before own next after = ⊥
GoesOnBy programming before own next after = (next ≡ Answered) × (after ≡ before)
GoesOnBy leaving before own next after = ⊥
GoesOnBy (closed restored) before own next after = IsClosed restored next × (after ≡ before)

-- what is told of what was heard: a stop is to be raised exactly where that was asked for while a run is out
abbrev pub StopTells : {F : Type 0} → Next F → Mode → Heard → Type 0
StopTells Idle mode heard = ⊥
StopTells Answered mode heard = is_out mode ≡ true → heard_to_stop heard ≡ false
StopTells (Launch job) mode heard = ⊤
StopTells RaiseStop mode heard = (is_out mode ≡ true) × (heard_to_stop heard ≡ true)
StopTells (Closed restored) mode heard = ⊤

-- a frame is heard: the target's job then, what is told of it, and what was asked of its flash: nothing of one that is out
pub record HearsFrame {F : Type 0} (flash : Flash F) (part_of : F → Part) (before : Emulator F) (job : Job F) (frame : Frame) (out : List ℕ)
    (next : Next F) (after : Emulator F) : Type 0 where
  pub now : Job F
  pub is : IsHeld part_of after now
  pub tells : NextTells next before after now
  pub stays : before.target ≡ None → after.target ≡ None → now ≡ job
  pub part : after.tool.plan.part ≡ before.tool.plan.part
  pub heard : Heard
  pub hears : Hears (whole frame) heard
  pub stops : StopTells next before.tool.mode heard
  pub asks : DoesAsking flash (λ part. item true part heard) (at before.tool job.core job.comparators []) job.flash
      (at after.tool now.core now.comparators out) now.flash
  pub mute : before.target ≡ None → after.target ≡ None → asks.asks ≡ []

-- a frame is taken, and something is said of what is heard
abbrev pub HearsOf : Chip → List ℕ → (Heard → Type 0) → Session → Session → Type 0
HearsOf part used says before after = (f : TakesFrame true part used before after) × says f.heard

-- one take of bytes, by what is to be done next: no frame came to wait, or the emulator does not listen; or one was heard
abbrev pub TakesBy : {F : Type 0} → Next F → Chip → (used left : List ℕ) → (before after : Session) → Type 0
TakesBy Idle part used left before after = elim (listens before.state.mode) [
  | true ↦ TakesNone used left before after
  | false ↦ (left ≡ []) × (after ≡ before)
]
TakesBy Answered part used left before after = (listens before.state.mode ≡ true) ×
    HearsOf part used (λ heard. is_out before.state.mode ≡ true → heard_to_stop heard ≡ false) before after
TakesBy (Launch job) part used left before after = (listens before.state.mode ≡ true) × TakesFrame true part used before after
TakesBy RaiseStop part used left before after = (listens before.state.mode ≡ true) ×
    HearsOf part used (λ heard. (is_out before.state.mode ≡ true) × (heard_to_stop heard ≡ true)) before after
TakesBy (Closed restored) part used left before after = (listens before.state.mode ≡ true) × TakesFrame true part used before after

-- some of these bytes are taken
abbrev pub TakesBytes : {F : Type 0} → Flash F → (F → Part) → Emulator F → Job F → List ℕ → (out : List ℕ) → Taken F → Emulator F → Type 0
TakesBytes flash part_of before job bytes out taken after =
    (taken.used ≤ length bytes) ×
    DoesCall flash part_of (TakesBy taken.next (chip_of before.tool.plan.part) (take taken.used bytes) (drop taken.used bytes))
    before job out taken.next after

-- the emulator takes bytes of the line, and its end; and the end of a run only while one is out
abbrev pub takes_line : Mode → Bool
takes_line stopped = true
takes_line (launching number) = false
takes_line running = true
takes_line programming = true
takes_line leaving = true
takes_line (closed restored) = false

abbrev pub MayTake : {F : Type 0} → (F → Part) → Input F → ToolState → Type 0
MayTake part_of (Bytes bytes) tool = takes_line tool.mode ≡ true
MayTake part_of LineEnd tool = takes_line tool.mode ≡ true
MayTake part_of (Halted done) tool = (is_out tool.mode ≡ true) × IsOwn part_of tool done.job

-- an end of the target's job is handed in, forced only where a stop was asked for
pub record IsEndOf {F : Type 0} (flash : Flash F) (part_of : F → Part) (e : Emulator F) (job : Job F) (done : Done F) : Type 0 where
  pub ends : EndsJob flash part_of job done
  pub asked : done.halt ≡ Forced → e.tool.stop_asked ≡ true

-- what a call does with its input
abbrev pub TakesInput : {F : Type 0} → Flash F → (F → Part) → Emulator F → Job F → Input F → (out : List ℕ) → Taken F → Emulator F → Type 0
TakesInput flash part_of before job (Bytes bytes) out taken after = TakesBytes flash part_of before job bytes.now out taken after
TakesInput flash part_of before job LineEnd out taken after =
    (taken.used ≡ 0) ×
    DoesCall flash part_of (λ s t. t ≡ line_ended (chip_of before.tool.plan.part) s) before job out taken.next after
TakesInput flash part_of before job (Halted done) out taken after =
    (taken.used ≡ 0) × (IsEndOf flash part_of before job done →
    DoesCall flash part_of (IsHalted true (chip_of before.tool.plan.part)) before job out taken.next after)

-- the session is closed with a fault only where the count of the flash rose in this call
abbrev pub HasFaultCause : {F : Type 0} → Flash F → (before : Emulator F) → Input F → Next F → (after : Emulator F) → Type 0
HasFaultCause flash before (Bytes bytes) next after = IfSome before.target (λ own. ClosesFor flash next own.flash after.target)
HasFaultCause flash before LineEnd next after = IfSome before.target (λ own. ClosesFor flash next own.flash after.target)
HasFaultCause flash before (Halted done) next after = ClosesFor flash next done.job.flash after.target
