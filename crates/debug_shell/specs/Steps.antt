-- What a line, a byte and some bytes of a script make of a host and its sink.
use Rattle.std.specs.Prelude.{◌≡◌, ◌≤◌, ◌<◌, ◌⊎◌, ℕ, List, [], ◌++◌, length, take, All, Option, None, Some}
use Rattle.line_spec.specs.Messages.{IsCommand, command_body, ignored_written}
use Rattle.line_spec.specs.Frames.{body_limit}
use Rattle.ice_msg.specs.Reading.{asked}
use Rattle.ice_msg.specs.declared.command.Command.{Command}
use Rattle.host_session.specs.Standing.{Hosted}
use Rattle.host_session.specs.Words.{Words}
use Rattle.shell_spec.specs.Lines.{Line, set, write, page}
use Rattle.shell_spec.specs.Sends.{command_of}
use Rattle.shell_spec.specs.Text.{IsEnded, IsOpen, joined}
use Rattle.debug_shell.specs.Printing.{Gains, Outside, Prints}
use Rattle.debug_shell.specs.Transcript.{Runs, RunsAll}
use Rattle.debug_shell.specs.declared.script_end.After.{After}
use Rattle.debug_shell.specs.declared.script_end.ScriptEnd.{ScriptEnd}
use Rattle.debug_shell.specs.declared.script_end.ScriptEnd.TheVariants.{Done}

-- the digits of a line
abbrev pub digits_in : Line → List ℕ
digits_in (set id digits) = digits
digits_in (write kind address digits) = digits
digits_in (page address digits) = digits
digits_in _ = []

-- the command can be sent
pub record IsSent (command : Command) : Type 0 where
  pub valid : IsCommand (asked command)
  pub fits : length (command_body (asked command) (ignored_written (asked command))) ≤ body_limit

-- the code's command is that of the line, and can be sent
abbrev pub Commands : Line → Option Command → Type 0
Commands line None = command_of line ≡ None
Commands line (Some command) = (command_of line ≡ Some (asked command)) × IsSent command

-- a host and its sink
pub record Printer (L : Type 0) : Type 0 where
  pub host : Hosted L
  pub sink : Outside

abbrev pub printer : {L : Type 0} → Hosted L → Option (List ℕ) → ℕ → Printer L
printer host written faults = record { host = host; sink = record { bytes = written; faults = faults } }

-- something is done to a host, and its text is put; the script ends behind it, or goes on
pub record Puts {L : Type 0} (doing : Hosted L → (text : List ℕ) → Hosted L → After → Type 0) (before after : Printer L)
    (end : Option ScriptEnd) : Type 0 where
  pub text : List ℕ
  pub way : After
  pub does : doing before.host text after.host way
  pub prints : Prints way end before.sink after.sink text

-- the front of a line that is kept: enough to tell that it is too long
abbrev pub held_limit : ℕ
held_limit = 323

abbrev pub held_of : List ℕ → List ℕ
held_of line = take held_limit line

-- lines were run, and this line began
pub record Goes {L : Type 0} (words : Words L) (given : List ℕ) (before after : Printer L) (held : List ℕ) : Type 0 where
  pub lines : List (List ℕ)
  pub behind : List ℕ
  pub text : List ℕ
  pub whole : given ≡ joined lines ++ behind
  pub ended : All IsEnded lines
  pub unended : IsOpen behind
  pub runs : RunsAll words lines before.host text after.host
  pub gains : Gains before.sink after.sink text
  pub keeps : held ≡ held_of behind

-- lines were run, and then one at which the script ends
pub record EndsWithin {L : Type 0} (words : Words L) (given : List ℕ) (before after : Printer L) (end : ScriptEnd) : Type 0 where
  pub lines : List (List ℕ)
  pub line : List ℕ
  pub behind : List ℕ
  pub whole : given ≡ joined lines ++ line ++ behind
  pub ended : All IsEnded lines
  pub is_line : IsEnded line
  pub middle : Hosted L
  pub first : List ℕ
  pub text : List ℕ
  pub way : After
  pub runs_before : RunsAll words lines before.host first middle
  pub runs : Runs words line middle text after.host way
  pub at : Outside
  pub gains : Gains before.sink at first
  pub prints : Prints way (Some end) at after.sink text

-- bytes behind an open line: the script goes on, or ends at a line that ends among them
abbrev pub TakesBytes : {L : Type 0} → Words L → (opened bytes : List ℕ) → Printer L → Printer L → (held : List ℕ) → Option ScriptEnd
    → Type 0
TakesBytes words opened bytes before after held None = Goes words (opened ++ bytes) before after held
TakesBytes words opened bytes before after held (Some end) =
    (stop : EndsWithin words (opened ++ bytes) before after end) × (length stop.behind < length bytes)

-- bytes behind whatever line is open, of which the front is kept
pub record TakesOn {L : Type 0} (words : Words L) (bytes : List ℕ) (before after : Printer L) (held now : List ℕ)
    (end : Option ScriptEnd) : Type 0 where
  pub takes : (opened : List ℕ) → IsOpen opened → held ≡ held_of opened → TakesBytes words opened bytes before after now end

-- the last line, which has no end: there is none, or it is run and goes on, or the script ends at it
abbrev pub RunsLast : {L : Type 0} → Words L → (opened : List ℕ) → Printer L → Printer L → ScriptEnd → Type 0
RunsLast words opened before after end = ((opened ≡ []) × (after ≡ before) × (end ≡ Done))
    ⊎ (((0 < length opened) × Puts (Runs words opened) before after None × (end ≡ Done)) ⊎ Puts (Runs words opened) before after (Some end))
