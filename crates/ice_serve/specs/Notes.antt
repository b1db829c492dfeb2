-- What one note does.
use Rattle.std.specs.Prelude.{◌≡◌, ℕ, true, false, List, [], Option, Some, None, Result, ⊤, is_ok}
use Rattle.part_spec.specs.declared.part.Part.{Part}
use Rattle.part_spec.specs.Chip.{Chip, chip_of}
use Rattle.debug_spec.specs.Moved.{Flash}
use Rattle.debug_spec.specs.Debugger.{Mode, stopped, closed, listens}
use Rattle.debug_spec.specs.Schedule.{Session, line_ended}
use Rattle.debug_spec.specs.Schedule.{Note as Told}
use Rattle.flash_patch.specs.declared.plan.FlashFault.{FlashFault}
use Rattle.run_control.specs.declared.job.Job.{Job}
use Rattle.ice_line.specs.Lines.{WritesAll, WritesFront}
use Rattle.ice_emul.specs.Taking.{takes_line}
use Rattle.ice_emul.specs.declared.emulator.Emulator.{Emulator}
use Rattle.ice_serve.specs.Chunks.{WritesBehind}
use Rattle.ice_serve.specs.Keeping.{Seen, Continues}
use Rattle.ice_serve.specs.Schedules.{NoteDoes}
use Rattle.ice_serve.specs.declared.note.Why.{Why}
use Rattle.ice_serve.specs.declared.note.Why.TheVariants.{Okay, Read, Write, TooLong}
use Rattle.ice_serve.specs.declared.note.Noted.{Noted}

-- what is written while the session goes on, and behind its end
abbrev pub WritesWith : Option (Result ⊤ FlashFault) → (before after : Option (List ℕ)) → (faults faults_now : ℕ) → List ℕ → Type 0
WritesWith None before after faults faults_now bytes = WritesAll before after faults faults_now bytes
WritesWith (Some restored) before after faults faults_now bytes = WritesBehind restored before after faults faults_now bytes

-- and so by the cause: a front of the bytes where not all could be written
abbrev pub WritesBy : Why → Option (Result ⊤ FlashFault) → (before after : Option (List ℕ)) → (faults faults_now : ℕ) → List ℕ → Type 0
WritesBy Okay over before after faults faults_now bytes = WritesWith over before after faults faults_now bytes
WritesBy Read over before after faults faults_now bytes = WritesAll before after faults faults_now bytes
WritesBy Write over before after faults faults_now bytes = WritesFront before after faults faults_now bytes
WritesBy TooLong over before after faults faults_now bytes = WritesAll before after faults faults_now bytes

-- the session goes on, or it is closed, its flash restored or not
abbrev pub StandsBehind : Option (Result ⊤ FlashFault) → Mode → Type 0
StandsBehind None mode = takes_line mode ≡ true
StandsBehind (Some restored) mode = mode ≡ closed (is_ok restored)

-- the run that is out has ended: the target is stopped where the debugger listened, or the session is closed
abbrev pub EndsRun : Option (Result ⊤ FlashFault) → (before after : Mode) → Type 0
EndsRun None before after = (listens before ≡ true) × (after ≡ stopped)
EndsRun (Some restored) before after = after ≡ closed (is_ok restored)

-- the end of a run is told while the session goes on; behind its end nothing is sent
abbrev pub told_if : Option (Result ⊤ FlashFault) → List ℕ → List ℕ
told_if None event = event
told_if (Some restored) event = []

-- behind the end of a run that was told: nothing more, or where it could not be written the line ends
abbrev pub Tells : Why → Chip → Session → Session → Type 0
Tells Okay part before after = after ≡ before
Tells Read part before after = ⊥
Tells Write part before after = after ≡ line_ended part before
Tells TooLong part before after = ⊥

-- one note is taken; where the debugger does not listen nothing is sent
pub record TakesNote {F : Type 0} (flash : Flash F) (part_of : F → Part) (note : Told) (noted : Noted) (e : Emulator F) (job : Job F)
    (v : Seen F) (before after : Option (List ℕ)) (faults faults_now : ℕ) (e_then : Emulator F) (v_then : Seen F) : Type 0 where
  pub out : List ℕ
  pub continues : Continues flash part_of (NoteDoes noted.why note (chip_of e.tool.plan.part)) e job v out e_then v_then
  pub writes : WritesBy noted.why noted.over before after faults faults_now out
  pub silent : listens e.tool.mode ≡ false → out ≡ []

-- a note that comes when the debugger does not listen brings no cause, and nothing is written
abbrev pub NotesNothing : Noted → (before after : Option (List ℕ)) → (faults faults_now : ℕ) → Type 0
NotesNothing noted before after faults faults_now = (noted.why ≡ Okay) × (after ≡ before) × (faults_now ≡ faults)

-- behind a cause the debugger does not listen, and where it did not before it does not then
abbrev pub IsQuiet : Noted → (before after : Mode) → Type 0
IsQuiet noted before after = ((noted.why ≡ Okay → ⊥) → listens after ≡ false) × (listens before ≡ false → listens after ≡ false)
