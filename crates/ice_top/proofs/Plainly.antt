-- A session at the call beside the plain debugger's, and the program that it leaves.
use Rattle.std.proofs.Common.{ℕ, true, false, List, refl, sym, ap, ◌∙◌}
use Rattle.part_spec.specs.Chip.{Chip}
use Rattle.debug_spec.specs.Device.{Device}
use Rattle.debug_spec.specs.Moved.{Flash}
use Rattle.debug_spec.specs.SessionLaws.{LeavesProgram}
use Rattle.debug_spec.specs.Debugger.{Debugger}
use Rattle.debug_spec.specs.Replay.{IsReplay}
use Rattle.debug_spec.proofs.Hearings.{every_line_is_heard}
use Rattle.debug_spec.proofs.HeadlineProof.{replays_agree}
use Rattle.debug_spec.proofs.CutShortLemmas.{cuts_short_show}
use Rattle.ice_line.specs.Lines.{Line}
use Rattle.ice_replay.specs.declared.session.End.{End}
use Rattle.ice_replay.specs.declared.session.End.TheVariants.{Okay, Flash as Unrestored, Read, Write, TooLong}
use Rattle.ice_top.specs.Replays.{Session, device_of}
use Rattle.ice_top.proofs.Scriptings.{script_as_plain, leaves_program}
use Rattle.ice_top.specs.Plain.{IsFrontOf, IsAsPlain, AreAsPlain, LeaveProgram}

module _ {F : Type 0} (flash : Flash F) (part : Chip) (program stops : List ℕ) (before after : Line) (from to : F) where
  -- a whole session beside the plain one
  beside : (end : End) (s : Session flash end part program stops before after from to) (whole : Debugger) →
      IsReplay true part stops program (device_of (flash.words from) s.asks) s.bytes whole → IsFrontOf end s.last whole →
      IsAsPlain flash end part program stops before after from to s
  beside end s whole replay front =
      let device : Device = device_of (flash.words from) s.asks in
      let plain = every_line_is_heard.replay false part stops program device s.bytes s.read.valid in
      record {
        whole = whole;
        replay = replay;
        front = front;
        plain = plain.0;
        plain_replay = plain.1;
        agree = replays_agree part stops program device s.bytes whole plain.0 s.size s.fit replay plain.1;
      }

  as_plain : (end : End) (s : Session flash end part program stops before after from to) →
      IsAsPlain flash end part program stops before after from to s
  as_plain Okay s = beside Okay s s.last s.replay refl
  as_plain Unrestored s = beside Unrestored s s.last s.replay refl
  as_plain Read s = beside Read s s.last s.replay refl
  as_plain TooLong s = beside TooLong s s.last s.replay refl
  as_plain Write s =
      let device : Device = device_of (flash.words from) s.asks in
      let whole = every_line_is_heard.replay true part stops program device s.bytes s.read.valid in
      beside Write s whole.0 whole.1
      ((cuts_short_show true part stops program device s.bytes s.replay.0 s.last s.size s.fit s.read.valid s.replay.1.0).first
      whole.0 whole.1)

  -- the book's session leaves its program
  leaves : (end : End) (s : Session flash end part program stops before after from to) →
      LeavesProgram (device_of (flash.words from) s.asks) s.last
  unfolding as_plain beside
  leaves Okay s = (as_plain Okay s).agree.leaves.0
  leaves Unrestored s = (as_plain Unrestored s).agree.leaves.0
  leaves Read s = (as_plain Read s).agree.leaves.0
  leaves TooLong s = (as_plain TooLong s).agree.leaves.0
  leaves Write s = (cuts_short_show true part stops program (device_of (flash.words from) s.asks) s.bytes s.replay.0 s.last s.size s.fit
      s.read.valid s.replay.1.0).leaves

pub are_as_plain : {F : Type 0} (flash : Flash F) (before after : Line) (from to : F) → AreAsPlain flash before after from to
are_as_plain flash before after from to = record {
  sessions = λ end part program stops s. as_plain flash part program stops before after from to end s;
  scripts = λ end signed restored part program stops s.
      script_as_plain flash end signed restored part program stops before after from to s;
}

pub leave_program : {F : Type 0} (flash : Flash F) (before after : Line) (from to : F) → LeaveProgram flash before after from to
leave_program flash before after from to = record {
  sessions = λ end part program stops s restored. sym (ap (λ (d : Device). d.words) s.device) ∙
      (leaves flash part program stops before after from to end s).restored restored;
  scripts = λ end signed part program stops s. leaves_program flash end signed part program stops before after from to s;
}
