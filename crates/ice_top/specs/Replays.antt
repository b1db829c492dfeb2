-- How a replay ends: its session, and its line in the notes.
use Rattle.std.specs.Prelude.{◌≡◌, ◌⊎◌, ℕ, Bool, false, if◌then◌else◌, List, [], length, map, take, codes}
use Rattle.std.specs.Io.KnownBytes.{Appends}
use Rattle.part_spec.specs.Chip.{Chip, words_of}
use Rattle.debug_spec.specs.Device.{Asked, outcome_of, synced, Device}
use Rattle.debug_spec.specs.Moved.{Flash, Moved}
use Rattle.debug_spec.specs.Debugger.{Debugger}
use Rattle.debug_spec.specs.Replay.{bytes_sent, totals}
use Rattle.debug_spec.specs.SessionLaws.{IsFit}
use Rattle.debug_spec.specs.Opening.{IsOpened}
use Rattle.ice_base.specs.Counts.{Rose}
use Rattle.ice_line.specs.Lines.{Line, WritesAll}
use Rattle.ice_line.specs.Reads.{IsRead}
use Rattle.ice_replay.specs.Endings.{EndsLine, ReplaysBy, SignsBy, ClosesBy}
use Rattle.ice_replay.specs.declared.session.End.{End}
use Rattle.ice_replay.specs.declared.session.End.TheVariants.{Okay as Whole, Flash as Unrestored, Read as Unread, Write as Unsent}
use Rattle.ice_replay.specs.declared.session.End.TheVariants.{TooLong as Long}
use Rattle.ice_top.specs.Notes.{line, totals as totals_line}
use Rattle.ice_top.specs.Outside.{Ends, NotesLine, NotOpened}
use Rattle.ice_top.specs.declared.status.Status.{Status}
use Rattle.ice_top.specs.declared.status.Status.TheVariants.{Okay, Usage, Image, Loader, Read, Write, Flash as Unwritten, Memory, TooLong}
use Rattle.ice_top.specs.declared.status.Status.TheVariants.{NoThread, Link, Refuted}

-- the device of a session: the words of its flash at entry, and what comes of each ask that is made of it
abbrev pub device_of : List ℕ → List Asked → Device
device_of words asks = record { words = words; asked = []; outcomes = map outcome_of asks }

-- a session of the book, of the patched debugger: the flash moved from entry to exit by its asks, the opening's first, each with one
-- outcome; these bytes were read, and those behind them were not looked at; what it sends was sent as its end says; and its device is the
-- flash at exit
pub record Session {F : Type 0} (flash : Flash F) (end : End) (part : Chip) (program stops : List ℕ) (before after : Line) (from to : F) :
    Type 0 where
  pub asks : List Asked
  pub moved : Moved flash from asks to
  pub size : length program ≡ words_of part
  pub fit : IsFit part (device_of (flash.words from) asks)
  pub opens : IsOpened part program (device_of (flash.words from) asks)
  pub bytes : List ℕ
  pub extra : List ℕ
  pub read : IsRead before after bytes extra
  pub signed : Bool
  pub late : Bool
  pub ahead : List ℕ
  pub signs : SignsBy end signed late ahead part stops program (device_of (flash.words from) asks) bytes
  pub last : Debugger
  pub replay : ReplaysBy end part stops program (device_of (flash.words from) asks) bytes last
  pub closes : ClosesBy end last.mode
  pub sends : EndsLine end signed late before after bytes extra ahead (bytes_sent last)
  pub device : last.device ≡ record { words = flash.words to; asked = asks; outcomes = [] }

-- a page of the program could not be written: the book's opening fails so
pub record FailsToOpen {F : Type 0} (flash : Flash F) (part : Chip) (program : List ℕ) (from to : F) : Type 0 where
  pub asks : List Asked
  pub moved : Moved flash from asks to
  pub fails : synced part program (device_of (flash.words from) asks) ≡ record {
    ok = false;
    device = record { words = flash.words to; asked = asks; outcomes = [] };
  }
  pub cause : Rose (flash.faults from) (flash.faults to)

-- a call that has a program has no session: there was no memory, and the flash is the same, or a page of it could not be written
abbrev pub DidNotBegin : {F : Type 0} → Flash F → Status → Chip → (program : List ℕ) → (before after : Ends) → (from to : F) → Type 0
DidNotBegin flash Memory part program before after from to = NotOpened before after (line (codes "memory")) × (to ≡ from)
DidNotBegin flash Unwritten part program before after from to =
    FailsToOpen flash part program from to × NotOpened before after (line (codes "flash"))
DidNotBegin flash Okay part program before after from to = ⊥
DidNotBegin flash Usage part program before after from to = ⊥
DidNotBegin flash Image part program before after from to = ⊥
DidNotBegin flash Loader part program before after from to = ⊥
DidNotBegin flash Read part program before after from to = ⊥
DidNotBegin flash Write part program before after from to = ⊥
DidNotBegin flash TooLong part program before after from to = ⊥
DidNotBegin flash NoThread part program before after from to = ⊥
DidNotBegin flash Link part program before after from to = ⊥
DidNotBegin flash Refuted part program before after from to = ⊥

-- the line of a session's totals
abbrev pub line_of_totals : Debugger → List ℕ
line_of_totals s = let t = totals s in totals_line t.cycles t.steps t.writes t.dropped

-- the status of a session that ended for this, and whose totals were noted or not
abbrev pub status_at : End → (noted : Bool) → Status
status_at Whole noted = if noted then Okay else Write
status_at Unrestored noted = Unwritten
status_at Unread noted = Read
status_at Unsent noted = Write
status_at Long noted = TooLong

-- how a call ends that has a program and numbers of steps: a session ended so, and its totals went to the notes; or none opened
abbrev pub Ran : {F : Type 0} → Flash F → Status → Chip → (program stops : List ℕ) → (before after : Ends) → (from to : F) → Type 0
Ran flash Okay part program stops before after from to =
    (s : Session flash Whole part program stops before.line after.line from to) ×
    WritesAll before.noted after.noted before.notes_faults after.notes_faults (line_of_totals s.last)
Ran flash Read part program stops before after from to =
    (s : Session flash Unread part program stops before.line after.line from to) × NotesLine before after (line_of_totals s.last)
Ran flash TooLong part program stops before after from to =
    (s : Session flash Long part program stops before.line after.line from to) × NotesLine before after (line_of_totals s.last)
Ran flash Write part program stops before after from to =
    ((s : Session flash Unsent part program stops before.line after.line from to) × NotesLine before after (line_of_totals s.last)) ⊎
    ((s : Session flash Whole part program stops before.line after.line from to) × Rose before.notes_faults after.notes_faults ×
    ((n : ℕ) × Appends before.noted after.noted (take n (line_of_totals s.last))))
Ran flash Unwritten part program stops before after from to =
    ((s : Session flash Unrestored part program stops before.line after.line from to) × NotesLine before after (line_of_totals s.last)) ⊎
    DidNotBegin flash Unwritten part program before after from to
Ran flash Memory part program stops before after from to = DidNotBegin flash Memory part program before after from to
Ran flash Usage part program stops before after from to = ⊥
Ran flash Image part program stops before after from to = ⊥
Ran flash Loader part program stops before after from to = ⊥
Ran flash NoThread part program stops before after from to = ⊥
Ran flash Link part program stops before after from to = ⊥
Ran flash Refuted part program stops before after from to = ⊥
