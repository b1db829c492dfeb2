-- A script: lines of the shell, one by one, whose commands the debugger hears in place of frames. Its runs end as those of a replay do.
use Rattle.std.specs.Prelude.{ℕ, Bool, nat_lt, if◌then◌else◌, List, [], ◌∷◌, ◌++◌, length, map, drop, Option, None, Some, Result, Ok, Err}
use Rattle.part_spec.specs.Chip.{Chip}
use Rattle.line_spec.specs.Frames.{Frame}
use Rattle.line_spec.specs.Hearing.{Heard, request, asks}
use Rattle.line_spec.specs.Messages.{Command}
use Rattle.debug_spec.specs.Device.{Device}
use Rattle.debug_spec.specs.Debugger.{Debugger, opened}
use Rattle.debug_spec.specs.Running.{line_end}
use Rattle.debug_spec.specs.Replay.{over, settled}
use Rattle.shell_spec.specs.declared.error.LineError.{LineError}
use Rattle.shell_spec.specs.Lines.{Line, quit}
use Rattle.shell_spec.specs.Reading.{reading}
use Rattle.shell_spec.specs.Sends.{command_of, is_wait}
use Rattle.shell_spec.specs.Sent.{number_behind, events_in, replies_in}

-- what is said of a line: what is wrong with it; the answer to its command, which is in this frame; the event that it takes, in this
-- frame; or that there is no event to take, or no answer as more events wait than are kept
pub data Said : Type 0 where
  wrong : LineError → Said
  answer : Line → Frame → Said
  event : Frame → Said
  no_event : Said
  events_full : Said

-- the script goes on; or it has ended, with the answer to `quit`, or as there was no event or no answer
pub data Ending : Type 0 where
  goes_on : Ending
  has_quit : Ending
  has_failed : Ending

-- a script under way: the commands heard so far, the debugger, the events that were sent and not yet taken, the oldest first, what was
-- said, and whether it goes on
pub record Script : Type 0 where
  pub commands : List Command
  pub debugger : Debugger
  pub queue : List Frame
  pub said : List Said
  pub ending : Ending

-- a script at its start
abbrev pub begun : Debugger → Script
begun s = record { commands = []; debugger = s; queue = []; said = []; ending = goes_on }

-- the most events that are kept while a command waits for its reply
abbrev pub kept_limit : ℕ
kept_limit = 64

-- more is said, and the script goes on or not
abbrev pub says : List Said → Ending → Script → Script
says said ending s = record s { said = s.said ++ said; ending = ending }

-- the script ends with the answer to `quit`
abbrev pub ending_behind : Line → Ending
ending_behind quit = has_quit
ending_behind _ = goes_on

-- these frames were sent for a line's command: the reply is its answer, unless too many events wait before it, and an event joins them
abbrev pub told_back : Line → List Frame → Script → Script
told_back line frames s = let full = nat_lt kept_limit (length s.queue) in record s {
  queue = s.queue ++ events_in frames;
  said = s.said ++ (if full then events_full ∷ [] else map (answer line) (replies_in frames));
  ending = if full then has_failed else ending_behind line;
}

-- a command is heard in the next frame
abbrev pub asked_in : Script → Command → Heard
asked_in s command = request (number_behind (length s.commands)) (asks command)

-- the debugger hears the command of a line, and the run that is out ends if its end comes now
abbrev pub sends : Bool → Chip → List ℕ → Line → Command → Script → Script
sends planted part stops line command s =
    let after = over planted part stops (asked_in s command ∷ []) s.debugger in
    told_back line (drop (length s.debugger.sent) after.sent)
    (record s { commands = s.commands ++ command ∷ []; debugger = after })

-- the oldest event is taken
abbrev pub awaits : List Frame → Script → Script
awaits [] s = says (no_event ∷ []) has_failed s
awaits (frame ∷ frames) s = says (event frame ∷ []) goes_on (record s { queue = frames })

-- what a line does, by its command
abbrev pub does : Bool → Chip → List ℕ → Line → Option Command → Script → Script
does planted part stops line None s = if is_wait line then awaits s.queue s else s
does planted part stops line (Some command) s = sends planted part stops line command s

-- what a line does that was read, or was wrong
abbrev pub does_read : Bool → Chip → List ℕ → Result Line LineError → Script → Script
does_read planted part stops (Ok line) s = does planted part stops line (command_of line) s
does_read planted part stops (Err error) s = says (wrong error ∷ []) goes_on s

-- what a line does; nothing, where the script has ended
abbrev pub line_in : Bool → Chip → List ℕ → Ending → (line : List ℕ) → Script → Script
line_in planted part stops goes_on line s = does_read planted part stops (reading line) s
line_in planted part stops has_quit line s = s
line_in planted part stops has_failed line s = s

-- lines, one by one
abbrev pub through : Bool → Chip → List ℕ → (lines : List (List ℕ)) → Script → Script
through planted part stops [] s = s
through planted part stops (line ∷ lines) s = through planted part stops lines (line_in planted part stops s.ending line s)

-- the script of these lines, over a program on a device
abbrev pub script : Bool → Chip → (stops prog : List ℕ) → Device → (lines : List (List ℕ)) → Script
script planted part stops prog device lines = through planted part stops lines (begun (opened part prog device))

-- the debugger behind a script: the line ends, with nothing held
abbrev pub left_behind : Bool → Chip → List ℕ → Script → Debugger
left_behind planted part stops s = settled planted part stops (line_end part [] s.debugger)
