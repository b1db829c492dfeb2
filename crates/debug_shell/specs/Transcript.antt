-- What the lines of a script make of a host, and what they print.
use Rattle.std.specs.Prelude.{◌≡◌, ◌≤◌, ℕ, Bool, true, false, List, [], ◌∷◌, ◌++◌, length, Option, None, Some, Result, Ok, Err}
use Rattle.line_spec.specs.Frames.{Frame, body_limit}
use Rattle.line_spec.specs.Messages.{Command, IsCommand, command_body, ignored_written}
use Rattle.ice_msg.specs.Reading.{told}
use Rattle.ice_msg.specs.declared.event.Event.{Event}
use Rattle.host_session.specs.Standing.{Hosted}
use Rattle.host_session.specs.Words.{Words}
use Rattle.host_session.specs.Awaiting.{kept_limit}
use Rattle.host_session.specs.Calls.{GivesEvent, Requests, next_number}
use Rattle.host_session.specs.declared.error.HostError.{HostError}
use Rattle.shell_spec.specs.declared.error.LineError.{LineError}
use Rattle.shell_spec.specs.Lines.{Line, quit}
use Rattle.shell_spec.specs.Reading.{reading}
use Rattle.shell_spec.specs.Sends.{command_of, is_wait}
use Rattle.shell_spec.specs.Printed.{error_text, event_text}
use Rattle.shell_spec.specs.Transcript.{IsAnswerText}
use Rattle.debug_shell.specs.Failing.{failure_text}
use Rattle.debug_shell.specs.declared.script_end.After.{After}
use Rattle.debug_shell.specs.declared.script_end.After.TheVariants.{Goes, Quits, Fails}

-- the script ends behind the answer to `quit`
abbrev pub after_answer : Line → After
after_answer quit = Quits
after_answer _ = Goes

-- what is printed of what came of a request: the answer; or why there is none, and the script ends
abbrev pub PrintsReply : Line → Result Frame HostError → (text : List ℕ) → After → Type 0
PrintsReply line (Ok frame) text after = IsAnswerText line frame text × (after ≡ after_answer line)
PrintsReply line (Err error) text after = (text ≡ failure_text error) × (after ≡ Fails)

-- the line's command, which can be sent, is the one call of the host, which keeps no more events than it may
pub record Asks {L : Type 0} (words : Words L) (line : Line) (command : Command) (host : Hosted L) (text : List ℕ) (now : Hosted L)
    (after : After) : Type 0 where
  pub result : Result Frame HostError
  pub requests : Requests words host.number command host.standing result now.standing
  pub number : now.number ≡ next_number host.number
  pub fits : length now.standing.kept ≤ kept_limit
  pub valid : IsCommand command
  pub size : length (command_body command (ignored_written command)) ≤ body_limit
  pub prints : PrintsReply line result text after

-- what is printed of what came of a wait for an event
abbrev pub PrintsEvent : Result Event HostError → (text : List ℕ) → After → Type 0
PrintsEvent (Ok event) text after = (text ≡ event_text (told event)) × (after ≡ Goes)
PrintsEvent (Err error) text after = (text ≡ failure_text error) × (after ≡ Fails)

-- taking the next event is the one call of the host
pub record Awaits {L : Type 0} (words : Words L) (host : Hosted L) (text : List ℕ) (now : Hosted L) (after : After) : Type 0 where
  pub result : Result Event HostError
  pub gives : GivesEvent words host.standing.kept host.standing result now.standing
  pub number : now.number ≡ host.number
  pub prints : PrintsEvent result text after

-- no call is made, this is printed, and the script goes on
pub record Idles {L : Type 0} (wanted : List ℕ) (host : Hosted L) (text : List ℕ) (now : Hosted L) (after : After) : Type 0 where
  pub same : now ≡ host
  pub is : text ≡ wanted
  pub goes : after ≡ Goes

-- a line that takes an event, or does nothing
abbrev pub AwaitsOrIdles : {L : Type 0} → Words L → (waits : Bool) → Hosted L → (text : List ℕ) → Hosted L → After → Type 0
AwaitsOrIdles words true host text now after = Awaits words host text now after
AwaitsOrIdles words false host text now after = Idles [] host text now after

-- what a line does, by its command
abbrev pub DoesBy : {L : Type 0} → Words L → Line → Option Command → Hosted L → (text : List ℕ) → Hosted L → After → Type 0
DoesBy words line None host text now after = AwaitsOrIdles words (is_wait line) host text now after
DoesBy words line (Some command) host text now after = Asks words line command host text now after

-- what a line does that was read, or was wrong
abbrev pub DoesRead : {L : Type 0} → Words L → Result Line LineError → Hosted L → (text : List ℕ) → Hosted L → After → Type 0
DoesRead words (Ok line) host text now after = DoesBy words line (command_of line) host text now after
DoesRead words (Err error) host text now after = Idles (error_text error) host text now after

-- what a line does
abbrev pub Runs : {L : Type 0} → Words L → (line : List ℕ) → Hosted L → (text : List ℕ) → Hosted L → After → Type 0
Runs words line host text now after = DoesRead words (reading line) host text now after

-- what lines do, one after the other, none of which ends the script
abbrev pub RunsAll : {L : Type 0} → Words L → (lines : List (List ℕ)) → Hosted L → (text : List ℕ) → Hosted L → Type 0
RunsAll words [] host text now = (text ≡ []) × (now ≡ host)
RunsAll words (line ∷ lines) host text now = (middle : Hosted _) × (first later : List ℕ) × Runs words line host first middle Goes
    × RunsAll words lines middle later now × (text ≡ first ++ later)
