-- What a line does, with its text put.
use Rattle.std.proofs.Common.{◌≡◌, ◌≤◌, ℕ, Bool, true, false, List, [], length, Option, None, Some, Result, Ok, Err, refl, sym, subst}
use Rattle.std.proofs.KnownBytes.{Appends-nil}
use Rattle.line_spec.specs.Frames.{Frame, body_limit}
use Rattle.line_spec.specs.Messages.{Command, IsCommand, command_body, ignored_written}
use Rattle.ice_msg.specs.declared.event.Event.{Event}
use Rattle.host_session.specs.Standing.{Hosted}
use Rattle.host_session.specs.Words.{Words}
use Rattle.host_session.specs.Awaiting.{kept_limit}
use Rattle.host_session.specs.Calls.{GivesEvent, Requests, next_number}
use Rattle.host_session.specs.declared.error.HostError.{HostError}
use Rattle.shell_spec.specs.declared.error.LineError.{LineError}
use Rattle.shell_spec.specs.Lines.{Line}
use Rattle.shell_spec.specs.Printed.{error_text}
use Rattle.shell_spec.specs.Reading.{reading}
use Rattle.shell_spec.specs.Sends.{command_of}
use Rattle.debug_shell.specs.Printing.{Outside, Prints}
use Rattle.debug_shell.specs.Steps.{Printer, Puts}
use Rattle.debug_shell.specs.Transcript.{Asks, AwaitsOrIdles, DoesBy, DoesRead, PrintsEvent, PrintsReply, Runs}
use Rattle.debug_shell.specs.declared.script_end.After.{After}
use Rattle.debug_shell.specs.declared.script_end.After.TheVariants.{Goes}
use Rattle.debug_shell.specs.declared.script_end.ScriptEnd.{ScriptEnd}

-- nothing is done
pub nothing_put : {L : Type 0} (words : Words L) (waits : Bool) (host : Hosted L) (sink : Outside) → waits ≡ false
    → Puts (AwaitsOrIdles words waits) (record { host = host; sink = sink }) (record { host = host; sink = sink }) None
nothing_put {L} words waits host sink never =
    let P : Bool → Type 0 = λ b. Puts (AwaitsOrIdles words b) (record { host = host; sink = sink }) (record { host = host; sink = sink }) None in
    subst P (sym never) (record { text = []; way = Goes; does = record { same = refl; is = refl; goes = refl }; prints = record { gains = Appends-nil sink.bytes; still = refl } })

-- an event is taken
pub event_put : {L : Type 0} (words : Words L) (waits : Bool) (host now : Hosted L) (before after : Outside) (result : Result Event HostError)
    (text : List ℕ) (way : After) (end : Option ScriptEnd) → waits ≡ true
    → GivesEvent words host.standing.kept host.standing result now.standing → now.number ≡ host.number → PrintsEvent result text way
    → Prints way end before after text
    → Puts (AwaitsOrIdles words waits) (record { host = host; sink = before }) (record { host = now; sink = after }) end
event_put {L} words waits host now before after result text way end does gives number prints put =
    let P : Bool → Type 0 = λ b. Puts (AwaitsOrIdles words b) (record { host = host; sink = before }) (record { host = now; sink = after }) end in
    subst P (sym does) (record {
      text = text;
      way = way;
      does = record { result = result; gives = gives; number = number; prints = prints };
      prints = put;
    })

-- a command is sent
pub reply_put : {L : Type 0} (words : Words L) (line : Line) (command : Command) (host now : Hosted L) (before after : Outside)
    (result : Result Frame HostError) (text : List ℕ) (way : After) (end : Option ScriptEnd)
    → Requests words host.number command host.standing result now.standing → now.number ≡ next_number host.number
    → length now.standing.kept ≤ kept_limit → IsCommand command
    → length (command_body command (ignored_written command)) ≤ body_limit → PrintsReply line result text way → Prints way end before after text
    → Puts (Asks words line command) (record { host = host; sink = before }) (record { host = now; sink = after }) end
reply_put words line command host now before after result text way end requests number fits valid size prints put = record {
  text = text;
  way = way;
  does = record { result = result; requests = requests; number = number; fits = fits; valid = valid; size = size; prints = prints };
  prints = put;
}

-- a line does what its command does
pub command_put : {L : Type 0} (words : Words L) (line : Line) (command : Command) (before after : Printer L) (end : Option ScriptEnd)
    → command_of line ≡ Some command → Puts (Asks words line command) before after end → Puts (DoesBy words line (command_of line)) before after end
command_put {L} words line command before after end is puts =
    let P : Option Command → Type 0 = λ o. Puts (DoesBy words line o) before after end in
    let asks : P (Some command) = record { text = puts.text; way = puts.way; does = puts.does; prints = puts.prints } in
    subst P (sym is) asks

pub unasked_put : {L : Type 0} (words : Words L) (line : Line) (before after : Printer L) (end : Option ScriptEnd)
    → command_of line ≡ None → Puts (DoesBy words line None) before after end → Puts (DoesBy words line (command_of line)) before after end
unasked_put {L} words line before after end is puts =
    let P : Option Command → Type 0 = λ o. Puts (DoesBy words line o) before after end in
    subst P (sym is) puts

-- a line that was read does what it says
pub right_put : {L : Type 0} (words : Words L) (line : List ℕ) (said : Line) (before after : Printer L) (end : Option ScriptEnd)
    → reading line ≡ Ok said → Puts (DoesBy words said (command_of said)) before after end → Puts (Runs words line) before after end
right_put words line said before after end is puts = record {
  text = puts.text;
  way = puts.way;
  does = let P : Result Line LineError → Type 0 = λ r. DoesRead words r before.host puts.text after.host puts.way in subst P (sym is) puts.does;
  prints = puts.prints;
}

-- a line that is wrong
pub wrong_put : {L : Type 0} (words : Words L) (line : List ℕ) (error : LineError) (host : Hosted L) (before after : Outside) (text : List ℕ)
    (end : Option ScriptEnd) → reading line ≡ Err error → text ≡ error_text error → Prints Goes end before after text
    → Puts (Runs words line) (record { host = host; sink = before }) (record { host = host; sink = after }) end
wrong_put words line error host before after text end is printed put = record {
  text = text;
  way = Goes;
  does = let P : Result Line LineError → Type 0 = λ r. DoesRead words r host text host Goes in subst P (sym is) (record { same = refl; is = printed; goes = refl });
  prints = put;
}
