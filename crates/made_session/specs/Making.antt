-- What comes of making a session.
use Rattle.std.specs.Prelude.{◌≡◌, ℕ, Bool, true, false, List, [], ◌++◌}
use Rattle.part_spec.specs.declared.part.Part.{Part}
use Rattle.part_spec.specs.Chip.{chip_of}
use Rattle.debug_spec.specs.Device.{Outcome, Asked, Device}
use Rattle.debug_spec.specs.PageLaws.{AreAnswered}
use Rattle.debug_spec.specs.Moved.{Flash, Moved}
use Rattle.debug_spec.specs.Debugger.{closed, opened}
use Rattle.run_control.specs.declared.job.Job.{Job}
use Rattle.ice_emul.specs.Standing.{StandsFor, held}
use Rattle.ice_emul.specs.declared.emulator.Emulator.{Emulator}
use Rattle.ice_replay.specs.Endings.{AreTotals}
use Rattle.ice_replay.specs.declared.session.End.{End}
use Rattle.ice_replay.specs.declared.session.End.TheVariants.{Okay, Flash as Fault, Read, Write, TooLong}
use Rattle.shell_spec.specs.Generator.{made_program, made_session, made_summary}
use Rattle.made_session.specs.declared.session.Made.{Made}

-- the flash is the program again where the session ended so
abbrev pub restored_by : End → Bool
restored_by Okay = true
restored_by Fault = false
restored_by Read = false
restored_by Write = false
restored_by TooLong = false

-- a made session: there are asks by which the flash moved, and for each device of which the emulator was the opened session over the made
-- program, whose outcomes answer them, the book's made session has exactly these asks made and no other, the words of this flash, these
-- totals and this summary; and its closing restore failed or not, as is told
pub record Makes {F : Type 0} (flash : Flash F) (part_of : F → Part) (e : Emulator F) (own : Job F) (seed count : ℕ) (result : Made F) :
    Type 0 where
  pub asks : List Asked
  pub moved : Moved flash own.flash asks result.flash
  pub leads : let part = chip_of e.tool.plan.part in (device : Device) (left : List Outcome) →
      StandsFor flash (held e own) (record { held = []; state = opened part (made_program part) device }) →
      AreAnswered (opened part (made_program part) device).device.outcomes asks left →
      let end = made_session true part seed count device in
      (end.mode ≡ closed result.restored) × (end.device.outcomes ≡ left) ×
      (end.device.asked ≡ (opened part (made_program part) device).device.asked ++ asks) ×
      (end.device.words ≡ flash.words result.flash) × AreTotals result.totals end ×
      (result.summary.items ≡ made_summary true part seed count device)
