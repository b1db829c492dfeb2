-- A script over an emulator: how its host opens, and what the book makes of it.
use Rattle.std.specs.Prelude.{◌≡◌, ℕ, Bool, true, false, not, List, [], ◌++◌}
use Rattle.part_spec.specs.declared.part.Part.{Part}
use Rattle.part_spec.specs.Chip.{Chip, chip_of}
use Rattle.debug_spec.specs.Device.{Outcome, Asked, Device}
use Rattle.debug_spec.specs.PageLaws.{AreAnswered}
use Rattle.debug_spec.specs.Moved.{Flash, Moved}
use Rattle.debug_spec.specs.Debugger.{Debugger, stopped, closed, opened, listens}
use Rattle.run_control.specs.Ends.{IsSoundInline, is_taken}
use Rattle.run_control.specs.declared.job.Job.{Job}
use Rattle.host_session.specs.Standing.{Hosted}
use Rattle.ice_emul.specs.Session.{Begins}
use Rattle.ice_emul.specs.Standing.{IsSoundEmulator, StandsFor, held}
use Rattle.ice_emul.specs.declared.emulator.Emulator.{Emulator}
use Rattle.ice_line.specs.Lines.{Line}
use Rattle.ice_replay.specs.Endings.{AreTotals}
use Rattle.shell_spec.specs.Script.{Ending, script}
use Rattle.shell_spec.specs.Transcript.{AreTexts, IsTranscript}
use Rattle.ice_script.specs.Ends.{EndsScript}
use Rattle.ice_script.specs.Wires.{WireState, take_limit}
use Rattle.ice_script.specs.declared.session.Scripted.{Scripted}

-- a wire over an emulator that has just begun, with these numbers of steps, on which nothing was sent
pub record IsFreshWire {F : Type 0} (part_of : F → Part) (stops : List ℕ) (w : WireState F) : Type 0 where
  pub sound : IsSoundEmulator part_of w.side.emulator
  pub mode : w.side.emulator.tool.mode ≡ stopped
  pub received : w.side.emulator.receiver ≡ record { held = []; dropped = 0 }
  pub runner : IsSoundInline w.side.runner.stops.items w.side.runner.seat
  pub stops_are : w.side.runner.stops.items ≡ stops
  pub free : is_taken w.side.runner.seat ≡ false
  pub launches : w.side.runner.launches ≡ 0
  pub collects : w.side.runner.collects ≡ 0
  pub queue : w.side.queue ≡ record { bytes = []; full = false }
  pub allowed : w.allowed ≡ take_limit
  pub lost : w.lost ≡ false

-- a host over such a wire, that has made no call
pub record IsFresh {F : Type 0} (part_of : F → Part) (stops : List ℕ) (host : Hosted (WireState F)) : Type 0 where
  pub wire : IsFreshWire part_of stops host.standing.link
  pub pending : host.standing.pending ≡ []
  pub kept : host.standing.kept ≡ []
  pub number : host.number ≡ 0

-- a script's host opens: its emulator has begun over the program, with the flash made the program
pub record Opens {F : Type 0} (flash : Flash F) (part_of : F → Part) (prog stops : List ℕ) (from : F)
    (host : Hosted (WireState F)) : Type 0 where
  pub begins : Begins flash part_of prog from host.standing.link.side.emulator
  pub fresh : IsFresh part_of stops host

-- the book's script of these lines, over a program on a device: its transcript, with the text of the earlier lines, how it ended, and the
-- debugger behind it, closed with its flash the program again or not; it was closed by a line where it listened no more
pub record IsScripted (part : Chip) (stops prog : List ℕ) (device : Device) (lines earlier : List (List ℕ)) (text first : List ℕ)
    (ending : Ending) (signed restored : Bool) (end : Debugger) : Type 0 where
  pub transcript : IsTranscript true part stops prog device lines text ending end
  pub ahead : AreTexts (script true part stops prog device earlier).said first
  pub signs : listens (script true part stops prog device lines).debugger.mode ≡ not signed
  pub closes : end.mode ≡ closed restored

-- a script over an emulator: these lines were run, and it ended so; there are asks by which the flash moved, and for each program and
-- device of which the emulator was the opened session, whose outcomes answer them, the book's script of these lines has this transcript,
-- ends so, with these asks made, and the words of this flash
pub record Scripts {F : Type 0} (flash : Flash F) (e : Emulator F) (own : Job F) (stops : List ℕ) (result : Scripted F)
    (before after : Line) : Type 0 where
  pub lines : List (List ℕ)
  pub earlier : List (List ℕ)
  pub text : List ℕ
  pub first : List ℕ
  pub ending : Ending
  pub ends : EndsScript result.end before after lines earlier text first ending
  pub asks : List Asked
  pub moved : Moved flash own.flash asks result.flash
  pub leads : let part = chip_of e.tool.plan.part in (prog : List ℕ) (device : Device) (left : List Outcome) →
      StandsFor flash (held e own) (record { held = []; state = opened part prog device }) →
      AreAnswered (opened part prog device).device.outcomes asks left →
      (end : Debugger) × IsScripted part stops prog device lines earlier text first ending result.signed result.restored end ×
      (end.device.outcomes ≡ left) × (end.device.asked ≡ (opened part prog device).device.asked ++ asks) ×
      (end.device.words ≡ flash.words result.flash) × AreTotals result.totals end
