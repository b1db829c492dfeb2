-- How a session that is served ends.
use Rattle.std.specs.Prelude.{◌≡◌, ◌⊎◌, ℕ, ◌%◌, ◌^◌, ◌++◌, Bool, true, false, List, Option, Result, Ok, Err, ⊤, is_ok}
use Rattle.std.specs.Io.KnownBytes.{Appends}
use Rattle.part_spec.specs.declared.part.Part.{Part}
use Rattle.part_spec.specs.Chip.{Chip, chip_of}
use Rattle.debug_spec.specs.Device.{Outcome, Asked, Device}
use Rattle.debug_spec.specs.PageLaws.{AreAnswered}
use Rattle.debug_spec.specs.Moved.{Flash}
use Rattle.debug_spec.specs.Debugger.{Mode, closed, Debugger, opened}
use Rattle.debug_spec.specs.Replay.{bytes_sent, totals}
use Rattle.debug_spec.specs.Schedule.{Session, Note}
use Rattle.debug_spec.specs.Opening.{opening}
use Rattle.flash_patch.specs.declared.plan.FlashFault.{FlashFault}
use Rattle.run_control.specs.declared.job.Job.{Job}
use Rattle.ice_line.specs.Lines.{WritesAll, WritesFront}
use Rattle.ice_emul.specs.Standing.{StandsFor, held}
use Rattle.ice_emul.specs.declared.emulator.Emulator.{Emulator}
use Rattle.ice_emul.specs.declared.session.Totals.{Totals}
use Rattle.ice_serve.specs.Outside.{outside, MovesBoth}
use Rattle.ice_serve.specs.Keeping.{Seen, Continues}
use Rattle.ice_serve.specs.Notes.{WritesBy}
use Rattle.ice_serve.specs.Schedules.{GoesBy}
use Rattle.ice_serve.specs.declared.note.Why.{Why}
use Rattle.ice_serve.specs.declared.note.Why.TheVariants as whys
use Rattle.ice_serve.specs.declared.notes.End.{End}
use Rattle.ice_serve.specs.declared.notes.End.TheVariants.{Okay, Flash as Fault, Read, Write, TooLong}

-- the end by its cause, and by whether the flash was restored: that matters where nothing came before
abbrev pub end_by : Why → Result ⊤ FlashFault → End
end_by whys.Okay (Ok restored) = Okay
end_by whys.Okay (Err fault) = Fault
end_by whys.Read restored = Read
end_by whys.Write restored = Write
end_by whys.TooLong restored = TooLong

-- the notes taken while the session was open are a schedule that brings no cause; or the line failed, or was too long, while the debugger
-- listened; or it is cut short, where not all could be written
abbrev pub EndsBy : End → Chip → List Note → Session → Session → Type 0
EndsBy Okay = GoesBy whys.Okay
EndsBy Fault = GoesBy whys.Okay
EndsBy Read = GoesBy whys.Read
EndsBy Write = GoesBy whys.Write
EndsBy TooLong = GoesBy whys.TooLong

-- where the session then is: closed, and with no cause before it its flash was restored or not
abbrev pub ClosesBy : End → Mode → Type 0
ClosesBy Okay mode = mode ≡ closed true
ClosesBy Fault mode = mode ≡ closed false
ClosesBy Read mode = (restored : Bool) × (mode ≡ closed restored)
ClosesBy Write mode = (restored : Bool) × (mode ≡ closed restored)
ClosesBy TooLong mode = (restored : Bool) × (mode ≡ closed restored)

-- what the sink gained
abbrev pub WritesEnd : End → (before after : Option (List ℕ)) → (faults faults_now : ℕ) → List ℕ → Type 0
WritesEnd Okay before after faults faults_now bytes = WritesAll before after faults faults_now bytes
WritesEnd Fault before after faults faults_now bytes =
    Appends before after bytes ⊎ WritesFront before after faults faults_now bytes
WritesEnd Read before after faults faults_now bytes = WritesAll before after faults faults_now bytes
WritesEnd Write before after faults faults_now bytes = WritesFront before after faults faults_now bytes
WritesEnd TooLong before after faults faults_now bytes = WritesAll before after faults faults_now bytes

-- the totals of a session; the count of dropped bytes modulo 2^64
abbrev pub AreTotals : Totals → Debugger → Type 0
AreTotals given end = (given.cycles ≡ (totals end).cycles) × (given.steps ≡ (totals end).steps) × (given.writes ≡ (totals end).writes) ×
    (given.dropped ≡ (totals end).dropped % 2 ^ 64)

-- the counts of a runner and of a sink, and the bytes written where they are told
pub record Counts : Type 0 where
  pub written : Option (List ℕ)
  pub sink_faults : ℕ
  pub runner_faults : ℕ

abbrev pub counts : Option (List ℕ) → ℕ → ℕ → Counts
counts written sink_faults runner_faults = record { written = written; sink_faults = sink_faults; runner_faults = runner_faults }

-- a session over these notes: there are asks by which the flash and the runner moved, and for each program and device of which the emulator
-- was the opened session, whose outcomes answer them, the book's schedule of the notes comes to an end with these bytes sent, these asks
-- made, no outcome left over, the words of this flash, these totals, and so many launches that worked
pub record IsServed {F : Type 0} (flash : Flash F) (part_of : F → Part) (e : Emulator F) (own : Job F) (notes : List Note) (end : End)
    (left_flash : F) (given : Totals) (launches : ℕ) (before after : Counts) : Type 0 where
  pub out : List ℕ
  pub writes : WritesEnd end before.written after.written before.sink_faults after.sink_faults out
  pub asks : List Asked
  pub moved : MovesBoth flash (outside own.flash before.runner_faults) asks (outside left_flash after.runner_faults)
  pub leads : let part = chip_of e.tool.plan.part in (prog : List ℕ) (device : Device) (left : List Outcome) →
      StandsFor flash (held e own) (opening part prog device) → AreAnswered (opened part prog device).device.outcomes asks left →
      (t : Session) × EndsBy end part notes (opening part prog device) t × ClosesBy end t.state.mode × (bytes_sent t.state ≡ out) ×
      (t.state.device.outcomes ≡ left) × (t.state.device.asked ≡ (opened part prog device).device.asked ++ asks) ×
      (t.state.device.words ≡ flash.words left_flash) × AreTotals given t.state × (t.state.launches ≡ launches)

-- the session is closed
abbrev pub StandsClosed : Result ⊤ FlashFault → Mode → Type 0
StandsClosed restored mode = mode ≡ closed (is_ok restored)

-- the notes taken so far
pub record GoesSoFar {F : Type 0} (flash : Flash F) (part_of : F → Part) (why : Why) (over : Option (Result ⊤ FlashFault))
    (notes : List Note) (e : Emulator F) (job : Job F) (v : Seen F) (before after : Option (List ℕ)) (faults faults_now : ℕ)
    (e_then : Emulator F) (v_then : Seen F) : Type 0 where
  pub out : List ℕ
  pub continues : Continues flash part_of (GoesBy why (chip_of e.tool.plan.part) notes) e job v out e_then v_then
  pub writes : WritesBy why over before after faults faults_now out
