-- The headline at the call: its session beside the plain debugger's over the same bytes or lines, and the program that it leaves in the
-- flash.
use Rattle.std.specs.Prelude.{◌≡◌, List, ℕ, Bool, true, false}
use Rattle.part_spec.specs.Chip.{Chip}
use Rattle.debug_spec.specs.Moved.{Flash}
use Rattle.debug_spec.specs.SessionLaws.{Grows}
use Rattle.debug_spec.specs.Debugger.{Debugger, closed}
use Rattle.debug_spec.specs.Replay.{IsReplay}
use Rattle.debug_spec.specs.Headline.{EndsAgree}
use Rattle.shell_spec.specs.Script.{Ending}
use Rattle.shell_spec.specs.Transcript.{IsTranscript}
use Rattle.shell_spec.specs.CleanScripts.{ScriptsAgree}
use Rattle.debug_shell.specs.declared.script_end.ScriptEnd.{ScriptEnd}
use Rattle.ice_line.specs.Lines.{Line}
use Rattle.ice_replay.specs.declared.session.End.{End}
use Rattle.ice_replay.specs.declared.session.End.TheVariants.{Okay, Flash as Unrestored, Read, Write, TooLong}
use Rattle.ice_top.specs.Replays.{Session, device_of}
use Rattle.ice_top.specs.Scripts.{ScriptSession}

-- it is the whole session over its bytes, or was cut short, and what it sent stands first in what that one sends
abbrev pub IsFrontOf : End → (last whole : Debugger) → Type 0
IsFrontOf Okay last whole = last ≡ whole
IsFrontOf Unrestored last whole = last ≡ whole
IsFrontOf Read last whole = last ≡ whole
IsFrontOf Write last whole = Grows last.sent whole.sent
IsFrontOf TooLong last whole = last ≡ whole

-- the plain debugger over the same bytes and outcomes agrees with the whole session: where all its runs are clean they are equal, and in
-- any case both have sent the same up to and with the reply that starts the first run that is not clean
pub record IsAsPlain {F : Type 0} (flash : Flash F) (end : End) (part : Chip) (program stops : List ℕ) (before after : Line) (from to : F)
    (s : Session flash end part program stops before after from to) : Type 0 where
  pub whole : Debugger
  pub replay : IsReplay true part stops program (device_of (flash.words from) s.asks) s.bytes whole
  pub front : IsFrontOf end s.last whole
  pub plain : Debugger
  pub plain_replay : IsReplay false part stops program (device_of (flash.words from) s.asks) s.bytes plain
  pub agree : EndsAgree part stops program (device_of (flash.words from) s.asks) s.bytes whole plain plain_replay

-- each transcript of the plain debugger's script of the same lines, over the same outcomes, agrees with the script's: where all its runs are
-- clean they are equal, and in any case both begin with the same, up to and with the answer that starts the first run that is not clean
abbrev pub IsScriptAsPlain : {F : Type 0} (flash : Flash F) (end : ScriptEnd) (signed restored : Bool) (part : Chip)
    (program stops : List ℕ) (before after : Line) (from to : F) →
    ScriptSession flash end signed restored part program stops before after from to → Type 0
IsScriptAsPlain flash end signed restored part program stops before after from to s =
    (plain_text : List ℕ) (plain_ending : Ending) (plain : Debugger) →
    IsTranscript false part stops program (device_of (flash.words from) s.asks) s.lines plain_text plain_ending plain →
    ScriptsAgree part stops program (device_of (flash.words from) s.asks) s.lines s.text plain_text s.ending plain_ending s.last plain

-- each session and each script at these places is as the plain debugger's
pub record AreAsPlain {F : Type 0} (flash : Flash F) (before after : Line) (from to : F) : Type 0 where
  pub sessions : (end : End) (part : Chip) (program stops : List ℕ)
      (s : Session flash end part program stops before after from to) → IsAsPlain flash end part program stops before after from to s
  pub scripts : (end : ScriptEnd) (signed restored : Bool) (part : Chip) (program stops : List ℕ)
      (s : ScriptSession flash end signed restored part program stops before after from to) →
      IsScriptAsPlain flash end signed restored part program stops before after from to s

-- and leaves the program as last programmed in the flash, where no page write of the closing restore failed
pub record LeaveProgram {F : Type 0} (flash : Flash F) (before after : Line) (from to : F) : Type 0 where
  pub sessions : (end : End) (part : Chip) (program stops : List ℕ)
      (s : Session flash end part program stops before after from to) → s.last.mode ≡ closed true → flash.words to ≡ s.last.prog
  pub scripts : (end : ScriptEnd) (signed : Bool) (part : Chip) (program stops : List ℕ)
      (s : ScriptSession flash end signed true part program stops before after from to) → flash.words to ≡ s.last.prog
