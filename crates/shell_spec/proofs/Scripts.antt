-- The debugger of a script is that of the session over its commands.
use Rattle.std.proofs.Common.{◌≡◌, ℕ, ◌+◌, suc, Bool, true, false, List, [], ◌∷◌, ◌++◌, length, Option, Some, None, Result, Ok, Err}
use Rattle.std.proofs.Common.{if◌then◌else◌, refl, sym, ◌∙◌, ap, arith}
use Rattle.part_spec.specs.Chip.{Chip}
use Rattle.line_spec.specs.Frames.{Frame}
use Rattle.line_spec.specs.Hearing.{Heard}
use Rattle.line_spec.specs.Messages.{Command}
use Rattle.debug_spec.specs.Debugger.{Debugger, opened}
use Rattle.debug_spec.specs.Running.{line_end}
use Rattle.debug_spec.specs.Replay.{over, settled}
use Rattle.debug_spec.proofs.TakeReplayLemmas.{over-append}
use Rattle.shell_spec.specs.declared.error.LineError.{LineError}
use Rattle.shell_spec.specs.Lines.{Line}
use Rattle.shell_spec.specs.Reading.{reading}
use Rattle.shell_spec.specs.Sends.{command_of, is_wait}
use Rattle.shell_spec.specs.Sent.{requests_of}
use Rattle.shell_spec.specs.Script.{Ending, goes_on, has_quit, has_failed, Script, begun}
use Rattle.shell_spec.specs.Script.{awaits, does, does_read, line_in, through, asked_in}
use Rattle.shell_spec.specs.ScriptLaws.{ScriptsAreSessions}

-- what is kept by each request is kept by lines
module _ (planted : Bool) (part : Chip) (stops : List ℕ) (Holds : List Command → Debugger → Type 0)
    (sent : (s : Script) (command : Command) → Holds s.commands s.debugger →
    Holds (s.commands ++ command ∷ []) (over planted part stops (asked_in s command ∷ []) s.debugger)) where
  keeps-awaits : (queue : List Frame) (s : Script) → Holds s.commands s.debugger →
      Holds (awaits queue s).commands (awaits queue s).debugger
  keeps-awaits [] s h = h
  keeps-awaits (frame ∷ frames) s h = h

  keeps-unsent : (waits : Bool) (s : Script) → Holds s.commands s.debugger →
      let t = if waits then awaits s.queue s else s in Holds t.commands t.debugger
  keeps-unsent true s h = keeps-awaits s.queue s h
  keeps-unsent false s h = h

  keeps-does : (line : Line) (command : Option Command) (s : Script) → Holds s.commands s.debugger →
      let t = does planted part stops line command s in Holds t.commands t.debugger
  keeps-does line None s h = keeps-unsent (is_wait line) s h
  keeps-does line (Some command) s h = sent s command h

  keeps-read : (read : Result Line LineError) (s : Script) → Holds s.commands s.debugger →
      let t = does_read planted part stops read s in Holds t.commands t.debugger
  keeps-read (Ok line) s h = keeps-does line (command_of line) s h
  keeps-read (Err error) s h = h

  pub keeps-line : (ending : Ending) (line : List ℕ) (s : Script) → Holds s.commands s.debugger →
      let t = line_in planted part stops ending line s in Holds t.commands t.debugger
  keeps-line goes_on line s h = keeps-read (reading line) s h
  keeps-line has_quit line s h = h
  keeps-line has_failed line s h = h

  pub keeps-through : (lines : List (List ℕ)) (s : Script) → Holds s.commands s.debugger →
      let t = through planted part stops lines s in Holds t.commands t.debugger
  keeps-through [] s h = h
  keeps-through (line ∷ lines) s h =
      keeps-through lines (line_in planted part stops s.ending line s) (keeps-line s.ending line s h)

-- one request more, behind others
requests-behind : (count number : ℕ) (commands : List Command) (command : Command) → number ≡ count + length commands →
    requests_of count (commands ++ command ∷ []) ≡ requests_of count commands ++ requests_of number (command ∷ [])
requests-behind count number [] command same = ap (λ (n : ℕ). requests_of n (command ∷ [])) (omega (arith, same))
requests-behind count number (first ∷ commands) command same =
    ap (λ (t : List Heard). requests_of count (first ∷ []) ++ t) (requests-behind (suc count) number commands command (omega (arith, same)))

-- the debugger has heard these commands
module _ (planted : Bool) (part : Chip) (stops : List ℕ) (start : Debugger) where
  abbrev HasHeard : List Command → Debugger → Type 0
  HasHeard commands s = s ≡ over planted part stops (requests_of 0 commands) start

  hears-more : (s : Script) (command : Command) → HasHeard s.commands s.debugger →
      HasHeard (s.commands ++ command ∷ []) (over planted part stops (asked_in s command ∷ []) s.debugger)
  hears-more s command h =
      ap (λ (d : Debugger). over planted part stops (asked_in s command ∷ []) d) h ∙
      sym (over-append planted part stops (requests_of 0 s.commands) (asked_in s command ∷ []) start) ∙
      ap (λ (t : List Heard). over planted part stops t start)
      (sym (requests-behind 0 (length s.commands) s.commands command (omega arith)))

pub scripts_are_sessions : ScriptsAreSessions
scripts_are_sessions planted part stops prog device lines =
    let start = opened part prog device in
    ap (λ (d : Debugger). settled planted part stops (line_end part [] d))
    (keeps-through planted part stops (HasHeard planted part stops start) (hears-more planted part stops start) lines (begun start) refl)
