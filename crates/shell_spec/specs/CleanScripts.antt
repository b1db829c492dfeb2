-- Scripts whose runs are clean, and what the patched debugger's script and the plain one's have in common: all of it, as long as they are.
use Rattle.std.specs.Prelude.{◌≡◌, ℕ, ◌&&◌, Bool, true, false, List, [], ◌∷◌, ◌++◌, length, Option, None, Some, Result, Ok, Err}
use Rattle.part_spec.specs.Chip.{Chip, words_of}
use Rattle.line_spec.specs.Hearing.{Heard}
use Rattle.line_spec.specs.Messages.{Command}
use Rattle.debug_spec.specs.Device.{Device}
use Rattle.debug_spec.specs.Debugger.{Debugger, opened}
use Rattle.debug_spec.specs.Running.{line_end}
use Rattle.debug_spec.specs.Commands.{item_launched}
use Rattle.debug_spec.specs.SessionLaws.{IsFit, is_closed, LeavesProgram}
use Rattle.debug_spec.specs.CleanSessions.{clean_heard, clean_out}
use Rattle.shell_spec.specs.declared.error.LineError.{LineError}
use Rattle.shell_spec.specs.Lines.{Line}
use Rattle.shell_spec.specs.Reading.{reading}
use Rattle.shell_spec.specs.Sends.{command_of}
use Rattle.shell_spec.specs.Script.{Said, Ending, goes_on, has_quit, has_failed, Script, begun, asked_in, line_in}
use Rattle.shell_spec.specs.Transcript.{AreTexts, IsTranscript}

-- what runs with a request is clean: what it runs at once, and the run that is out behind it
abbrev pub clean_request : Chip → List ℕ → Heard → Debugger → Bool
clean_request part stops heard s = clean_heard part heard s && clean_out part stops (item_launched false part heard s)

-- what runs with a line is clean, by what it sends
abbrev pub clean_sent : Chip → List ℕ → Option Command → Script → Bool
clean_sent part stops None s = true
clean_sent part stops (Some command) s = clean_request part stops (asked_in s command) s.debugger

-- by what it says
abbrev pub clean_read : Chip → List ℕ → Result Line LineError → Script → Bool
clean_read part stops (Ok line) s = clean_sent part stops (command_of line) s
clean_read part stops (Err error) s = true

-- nothing runs with it where the script has ended
abbrev pub clean_line : Chip → List ℕ → Ending → (line : List ℕ) → Script → Bool
clean_line part stops goes_on line s = clean_read part stops (reading line) s
clean_line part stops has_quit line s = true
clean_line part stops has_failed line s = true

-- all runs of the plain debugger's script are clean
abbrev pub clean_script : Chip → List ℕ → (lines : List (List ℕ)) → Script → Bool
clean_script part stops [] s = clean_out part stops (line_end part [] s.debugger)
clean_script part stops (line ∷ lines) s =
    clean_line part stops s.ending line s && clean_script part stops lines (line_in false part stops s.ending line s)

-- what the plain debugger's script says up to and with the answer that starts the first run that is not clean
abbrev pub clean_said : Chip → List ℕ → (lines : List (List ℕ)) → Script → List Said
clean_said part stops [] s = s.said
clean_said part stops (line ∷ lines) s = let t = line_in false part stops s.ending line s in
    elim (clean_line part stops s.ending line s) [ true ↦ clean_said part stops lines t | false ↦ t.said ]

-- two texts begin with the text of what was said
pub record BeginAlike (said : List Said) (text other : List ℕ) : Type 0 where
  pub first : List ℕ
  pub later : List ℕ
  pub other_later : List ℕ
  pub texts : AreTexts said first
  pub text_begins : text ≡ first ++ later
  pub other_begins : other ≡ first ++ other_later

-- the ends of two scripts of one list of lines, of the patched debugger and of the plain one:
pub record ScriptsAgree (part : Chip) (stops prog : List ℕ) (device : Device) (lines : List (List ℕ)) (text plain_text : List ℕ)
    (ending plain_ending : Ending) (end plain_end : Debugger) : Type 0 where
  -- where all runs of the plain one are clean, they are equal: in what is printed, how they ended, and in the debugger behind them
  pub clean : clean_script part stops lines (begun (opened part prog device)) ≡ true →
      (text ≡ plain_text) × (ending ≡ plain_ending) × (end ≡ plain_end)
  -- in any case both print the same up to and with the answer that starts the first run that is not clean
  pub first : BeginAlike (clean_said part stops lines (begun (opened part prog device))) text plain_text
  -- both are closed, and where the closing restore did not fail, the device of each holds its program
  pub closed : (is_closed end.mode ≡ true) × (is_closed plain_end.mode ≡ true)
  pub leaves : LeavesProgram device end × LeavesProgram device plain_end

-- of every script they agree so: the program has the words of the part, and so does the device, of which each page write that fails
-- leaves the words of a page
abbrev pub TranscriptsAgree : Type 0
TranscriptsAgree = (part : Chip) (stops prog : List ℕ) (device : Device) (lines : List (List ℕ)) (text plain_text : List ℕ)
    (ending plain_ending : Ending) (end plain_end : Debugger) → length prog ≡ words_of part → IsFit part device →
    IsTranscript true part stops prog device lines text ending end →
    IsTranscript false part stops prog device lines plain_text plain_ending plain_end →
    ScriptsAgree part stops prog device lines text plain_text ending plain_ending end plain_end
