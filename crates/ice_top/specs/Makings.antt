-- How a made session ends: its summary goes to the sink, and its totals to the notes.
use Rattle.std.specs.Prelude.{◌≡◌, ◌⊎◌, ℕ, Bool, true, false, if◌then◌else◌, List, [], take}
use Rattle.std.specs.Io.KnownBytes.{Appends}
use Rattle.part_spec.specs.Chip.{Chip}
use Rattle.debug_spec.specs.Device.{Asked}
use Rattle.debug_spec.specs.Moved.{Flash, Moved}
use Rattle.debug_spec.specs.Debugger.{Debugger, closed}
use Rattle.debug_spec.specs.SessionLaws.{IsFit}
use Rattle.debug_spec.specs.Opening.{IsOpened}
use Rattle.shell_spec.specs.Generator.{made_program, made_session, made_summary}
use Rattle.ice_base.specs.Counts.{Rose}
use Rattle.ice_line.specs.Lines.{WritesAll}
use Rattle.ice_top.specs.Outside.{Ends, NotesLine, Prints, PrintsFront}
use Rattle.ice_top.specs.Replays.{device_of, line_of_totals, DidNotBegin}
use Rattle.ice_top.specs.declared.status.Status.{Status}
use Rattle.ice_top.specs.declared.status.Status.TheVariants.{Okay, Usage, Image, Loader, Read, Write, Flash as Unwritten, Memory, TooLong}
use Rattle.ice_top.specs.declared.status.Status.TheVariants.{NoThread, Link, Refuted}

-- the debugger at the end of the session that is made from a seed, with so many commands, on the flash with these asks
abbrev pub made_by : {F : Type 0} → Flash F → Chip → (seed count : ℕ) → (from : F) → List Asked → Debugger
made_by flash part seed count from asks = made_session true part seed count (device_of (flash.words from) asks)

-- a made session of the book, of the patched debugger: the flash moved from entry to exit by its asks, the opening's first, each with one
-- outcome; its device is the flash at exit; and where the closing restore did not fail, the flash holds the program as last programmed
pub record MadeSession {F : Type 0} (flash : Flash F) (restored : Bool) (part : Chip) (seed count : ℕ) (from to : F) : Type 0 where
  pub asks : List Asked
  pub moved : Moved flash from asks to
  pub fit : IsFit part (device_of (flash.words from) asks)
  pub opens : IsOpened part (made_program part) (device_of (flash.words from) asks)
  pub closes : (made_by flash part seed count from asks).mode ≡ closed restored
  pub device : (made_by flash part seed count from asks).device ≡ record { words = flash.words to; asked = asks; outcomes = [] }
  pub leaves : restored ≡ true → flash.words to ≡ (made_by flash part seed count from asks).prog

-- its summary, and the line of its totals
abbrev pub summary_of : {F : Type 0} (flash : Flash F) (restored : Bool) (part : Chip) (seed count : ℕ) (from to : F) →
    MadeSession flash restored part seed count from to → List ℕ
summary_of flash restored part seed count from to s = made_summary true part seed count (device_of (flash.words from) s.asks)

abbrev pub totals_of : {F : Type 0} (flash : Flash F) (restored : Bool) (part : Chip) (seed count : ℕ) (from to : F) →
    MadeSession flash restored part seed count from to → List ℕ
totals_of flash restored part seed count from to s = line_of_totals (made_by flash part seed count from s.asks)

-- the status of one whose closing restore worked or not, and whose summary and totals were written or not
abbrev pub status_by : (restored summed noted : Bool) → Status
status_by false summed noted = Unwritten
status_by true false noted = Write
status_by true true noted = if noted then Okay else Write

abbrev pub MadeBy : {F : Type 0} → Flash F → Status → Chip → (seed count : ℕ) → (before after : Ends) → (from to : F) → Type 0
MadeBy flash Okay part seed count before after from to = (s : MadeSession flash true part seed count from to) ×
    Prints before.line after.line (summary_of flash true part seed count from to s) ×
    WritesAll before.noted after.noted before.notes_faults after.notes_faults (totals_of flash true part seed count from to s)
MadeBy flash Write part seed count before after from to = (s : MadeSession flash true part seed count from to) ×
    ((PrintsFront before.line after.line (summary_of flash true part seed count from to s) ×
    NotesLine before after (totals_of flash true part seed count from to s)) ⊎
    (Prints before.line after.line (summary_of flash true part seed count from to s) × Rose before.notes_faults after.notes_faults ×
    ((n : ℕ) × Appends before.noted after.noted (take n (totals_of flash true part seed count from to s)))))
MadeBy flash Unwritten part seed count before after from to = ((s : MadeSession flash false part seed count from to) ×
    (Prints before.line after.line (summary_of flash false part seed count from to s) ⊎
    PrintsFront before.line after.line (summary_of flash false part seed count from to s)) ×
    NotesLine before after (totals_of flash false part seed count from to s)) ⊎
    DidNotBegin flash Unwritten part (made_program part) before after from to
MadeBy flash Memory part seed count before after from to = DidNotBegin flash Memory part (made_program part) before after from to
MadeBy flash Usage part seed count before after from to = ⊥
MadeBy flash Image part seed count before after from to = ⊥
MadeBy flash Loader part seed count before after from to = ⊥
MadeBy flash Read part seed count before after from to = ⊥
MadeBy flash TooLong part seed count before after from to = ⊥
MadeBy flash NoThread part seed count before after from to = ⊥
MadeBy flash Link part seed count before after from to = ⊥
MadeBy flash Refuted part seed count before after from to = ⊥
