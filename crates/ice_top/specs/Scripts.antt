-- How a script ends: its session, and its line in the notes.
use Rattle.std.specs.Prelude.{◌≡◌, ◌⊎◌, ℕ, Bool, true, false, if◌then◌else◌, List, [], length}
use Rattle.part_spec.specs.Chip.{Chip, words_of}
use Rattle.debug_spec.specs.Device.{Asked}
use Rattle.debug_spec.specs.Moved.{Flash, Moved}
use Rattle.debug_spec.specs.Debugger.{Debugger}
use Rattle.debug_spec.specs.SessionLaws.{IsFit}
use Rattle.debug_spec.specs.Opening.{IsOpened}
use Rattle.shell_spec.specs.Script.{Ending}
use Rattle.debug_shell.specs.declared.script_end.ScriptEnd.{ScriptEnd}
use Rattle.debug_shell.specs.declared.script_end.ScriptEnd.TheVariants.{Done, Read as Unread, Write as Unsent, Link as Unanswered}
use Rattle.debug_shell.specs.declared.script_end.ScriptEnd.TheVariants.{TooLong as Long}
use Rattle.ice_line.specs.Lines.{Line, Writes}
use Rattle.ice_script.specs.Ends.{EndsScript}
use Rattle.ice_script.specs.Scripts.{IsScripted}
use Rattle.ice_top.specs.Outside.{Ends}
use Rattle.ice_top.specs.Replays.{device_of, line_of_totals, DidNotBegin}
use Rattle.ice_top.specs.declared.status.Status.{Status}
use Rattle.ice_top.specs.declared.status.Status.TheVariants.{Okay, Read, Write, Flash as Unwritten, TooLong, Link}

-- a script of the book, over the patched debugger: the flash moved from entry to exit by its asks, the opening's first, each with one
-- outcome; these lines were run, and what they print was put as its end says; the session was closed by a line or by their end, with its
-- flash restored or not; and its device is the flash at exit
pub record ScriptSession {F : Type 0} (flash : Flash F) (end : ScriptEnd) (signed restored : Bool) (part : Chip) (program stops : List ℕ)
    (before after : Line) (from to : F) : Type 0 where
  pub asks : List Asked
  pub moved : Moved flash from asks to
  pub size : length program ≡ words_of part
  pub fit : IsFit part (device_of (flash.words from) asks)
  pub opens : IsOpened part program (device_of (flash.words from) asks)
  pub lines : List (List ℕ)
  pub earlier : List (List ℕ)
  pub text : List ℕ
  pub first : List ℕ
  pub ending : Ending
  pub ends : EndsScript end before after lines earlier text first ending
  pub last : Debugger
  pub scripted : IsScripted part stops program (device_of (flash.words from) asks) lines earlier text first ending signed restored last
  pub device : last.device ≡ record { words = flash.words to; asked = asks; outcomes = [] }

-- the status by why the script ended
abbrev pub status_behind : ScriptEnd → (noted : Bool) → Status
status_behind Done noted = if noted then Okay else Write
status_behind Unread noted = Read
status_behind Unsent noted = Write
status_behind Unanswered noted = Link
status_behind Long noted = TooLong

-- a closing restore that failed comes ahead of it where nothing came before: where a line closed the session, or at the end of all lines
abbrev pub is_done : ScriptEnd → Bool
is_done Done = true
is_done Unread = false
is_done Unsent = false
is_done Unanswered = false
is_done Long = false

abbrev pub script_status : ScriptEnd → (signed restored noted : Bool) → Status
script_status end signed true noted = status_behind end noted
script_status end true false noted = Unwritten
script_status end false false noted = if is_done end then Unwritten else status_behind end noted

-- a script ended so, and its totals went to the notes, all of them or with a cause
pub record ScriptRan {F : Type 0} (flash : Flash F) (status : Status) (part : Chip) (program stops : List ℕ) (before after : Ends)
    (from to : F) : Type 0 where
  pub end : ScriptEnd
  pub signed : Bool
  pub restored : Bool
  pub noted : Bool
  pub session : ScriptSession flash end signed restored part program stops before.line after.line from to
  pub is : status ≡ script_status end signed restored noted
  pub notes : Writes noted before.noted after.noted before.notes_faults after.notes_faults (line_of_totals session.last)

-- how a call ends that has a program and numbers of steps: a script ended so, or no session opened
abbrev pub Scripted : {F : Type 0} → Flash F → Status → Chip → (program stops : List ℕ) → (before after : Ends) → (from to : F) → Type 0
Scripted flash status part program stops before after from to =
    ScriptRan flash status part program stops before after from to ⊎ DidNotBegin flash status part program before after from to
