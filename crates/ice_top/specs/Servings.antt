-- How a session with a client ends: its line and its target each ran on a thread of its own.
use Rattle.std.specs.Prelude.{◌≡◌, ◌⊎◌, ℕ, List, [], ◌++◌, Option, None, Some, length, codes}
use Rattle.part_spec.specs.declared.part.Part.{Part}
use Rattle.part_spec.specs.Chip.{Chip, chip_of, words_of}
use Rattle.debug_spec.specs.Device.{Asked}
use Rattle.debug_spec.specs.Moved.{Flash, Moved}
use Rattle.debug_spec.specs.SessionLaws.{IsFit}
use Rattle.debug_spec.specs.Opening.{opening, IsOpened}
use Rattle.debug_spec.specs.Replay.{bytes_sent}
use Rattle.debug_spec.specs.Schedule.{Session}
use Rattle.ice_base.specs.Counts.{Rose}
use Rattle.ice_inbox.specs.Ends.{Taken}
use Rattle.ice_inbox.specs.declared.inbox.Note.{Note}
use Rattle.ice_emul.specs.declared.session.Totals.{Totals}
use Rattle.ice_serve.specs.Endings.{EndsBy, ClosesBy, WritesEnd, AreTotals}
use Rattle.ice_serve.specs.Inbox.{notes_of}
use Rattle.ice_serve.specs.Outside.{outside as place, MovesBoth}
use Rattle.ice_serve.specs.Serving.{Threads, threads, RoseBy}
use Rattle.ice_serve.specs.declared.notes.End.{End}
use Rattle.ice_serve.specs.declared.notes.End.TheVariants.{Okay as Whole, Flash as Unrestored, Read as Unread, Write as Unsent}
use Rattle.ice_serve.specs.declared.notes.End.TheVariants.{TooLong as Long}
use Rattle.ice_top.specs.Words.{Says, serving, SaysNoServe}
use Rattle.ice_top.specs.Notes.{line}
use Rattle.ice_top.specs.Outside.{Outside, Ends, NotesStill, NotOpened}
use Rattle.ice_top.specs.Endings.{EndsOnImage}
use Rattle.ice_top.specs.Replays.{device_of, DidNotBegin}
use Rattle.ice_top.specs.declared.status.Status.{Status}
use Rattle.ice_top.specs.declared.status.Status.TheVariants.{Okay, Usage, Image, Loader, Read, Write, Flash as Unwritten, Memory, TooLong}
use Rattle.ice_top.specs.declared.status.Status.TheVariants.{NoThread, Link, Refuted}

-- one who starts threads: how many starts have failed, and how many threads were started and joined
pub record Starter : Type 0 where
  pub faults : ℕ
  pub threads : Threads

abbrev pub starter : ℕ → ℕ → ℕ → Starter
starter faults starts joins = record { faults = faults; threads = threads starts joins }

-- what is outside at one moment: beside the loader, the line and the notes, who starts the threads of the target and that of the line
pub record Around : Type 0 where
  pub outside : Outside
  pub targets : Starter
  pub lines : Starter

abbrev pub around : Outside → Starter → Starter → Around
around outside targets lines = record { outside = outside; targets = targets; lines = lines }

-- a session of the book, of the patched debugger, over the notes taken while it was open: the flash, and the count of threads that could
-- not be started, moved by its asks, the opening's first, each with one outcome; its notes are a schedule, whole or cut short as its end
-- says, and what it sends was sent; its device is the flash at exit; and a thread was started and joined for each launch that worked
pub record ServedSession {F : Type 0} (flash : Flash F) (end : End) (part : Chip) (program : List ℕ) (taken : List Note)
    (before after : Around) (from to : F) : Type 0 where
  pub asks : List Asked
  pub moved : MovesBoth flash (place from before.targets.faults) asks (place to after.targets.faults)
  pub size : length program ≡ words_of part
  pub fit : IsFit part (device_of (flash.words from) asks)
  pub opens : IsOpened part program (device_of (flash.words from) asks)
  pub notes : List Note
  pub later : List Note
  pub whole : taken ≡ notes ++ later
  pub last : Session
  pub goes : EndsBy end part (notes_of notes) (opening part program (device_of (flash.words from) asks)) last
  pub closes : ClosesBy end last.state.mode
  pub writes : WritesEnd end before.outside.ends.line.written after.outside.ends.line.written before.outside.ends.line.sink_faults
      after.outside.ends.line.sink_faults (bytes_sent last.state)
  pub device : last.state.device ≡ record { words = flash.words to; asked = asks; outcomes = [] }
  pub threads : RoseBy last.state.launches before.targets.threads after.targets.threads

-- the status by why the session ended
abbrev pub status_for : End → Status
status_for Whole = Okay
status_for Unrestored = Unwritten
status_for Unread = Read
status_for Unsent = Write
status_for Long = TooLong

-- a session was served and ended so, with these totals; a thread was started and joined for its line, and nothing was noted
pub record ServedRan {F : Type 0} (flash : Flash F) (status : Status) (part : Chip) (program : List ℕ) (taken : List Note) (given : Totals)
    (before after : Around) (from to : F) : Type 0 where
  pub end : End
  pub session : ServedSession flash end part program taken before after from to
  pub is : status ≡ status_for end
  pub totals : AreTotals given session.last.state
  pub lines : RoseBy 1 before.lines.threads after.lines.threads
  pub notes : NotesStill before.outside.ends after.outside.ends

-- the flash was made the program
pub record IsProgrammed {F : Type 0} (flash : Flash F) (program : List ℕ) (from to : F) : Type 0 where
  pub asks : List Asked
  pub moved : Moved flash from asks to
  pub words : flash.words to ≡ program

-- the thread of the line could not be started
pub record HasNoThread {F : Type 0} (flash : Flash F) (program : List ℕ) (before after : Around) (from to : F) : Type 0 where
  pub flash_is : IsProgrammed flash program from to
  pub noted : NotOpened before.outside.ends after.outside.ends (line (codes "thread"))
  pub cause : Rose before.lines.faults after.lines.faults

-- a call that has a program serves no session: none began, or its line has no thread
abbrev pub DidNotServe : {F : Type 0} → Flash F → Status → Chip → (program : List ℕ) → (before after : Around) → (from to : F) → Type 0
DidNotServe flash status part program before after from to =
    DidNotBegin flash status part program before.outside.ends after.outside.ends from to ⊎
    ((status ≡ NoThread) × HasNoThread flash program before after from to)

-- a session opened exactly where there are notes taken and totals
abbrev pub RanServed : {F : Type 0} → Flash F → Status → Chip → (program : List ℕ) → Option Taken → Option Totals →
    (before after : Around) → (from to : F) → Type 0
RanServed flash status part program (Some pass) (Some given) before after from to =
    ServedRan flash status part program pass.taken given before after from to
RanServed flash status part program None None before after from to = DidNotServe flash status part program before after from to
RanServed flash status part program (Some pass) None before after from to = ⊥
RanServed flash status part program None (Some given) before after from to = ⊥

-- none opened
abbrev pub IsNotServed : Option Taken → Option Totals → Type 0
IsNotServed pass given = (pass ≡ None) × (given ≡ None)

-- the words say a session with a client, on the image with this name, and it ended so
pub record Serves {F : Type 0} (flash : Flash F) (status : Status) (words : List (List ℕ)) (pass : Option Taken) (given : Option Totals)
    (before after : Around) (from to : F) : Type 0 where
  pub port : ℕ
  pub image : List ℕ
  pub part : Part
  pub says : Says words (serving port image) part
  pub ends : EndsOnImage status part image before.outside after.outside ((to ≡ from) × IsNotServed pass given)
      (λ status program. RanServed flash status (chip_of part) program pass given before after from to)

-- what each status says: the words say no session with a client, or one that ended so
abbrev pub ServesBy : {F : Type 0} → Flash F → Status → List (List ℕ) → Option Taken → Option Totals → (before after : Around) →
    (from to : F) → Type 0
ServesBy flash Usage words pass given before after from to =
    SaysNoServe words × NotOpened before.outside.ends after.outside.ends (line (codes "usage")) × (to ≡ from) × IsNotServed pass given
ServesBy flash Image words pass given before after from to = Serves flash Image words pass given before after from to
ServesBy flash Loader words pass given before after from to = Serves flash Loader words pass given before after from to
ServesBy flash Memory words pass given before after from to = Serves flash Memory words pass given before after from to
ServesBy flash Okay words pass given before after from to = Serves flash Okay words pass given before after from to
ServesBy flash Read words pass given before after from to = Serves flash Read words pass given before after from to
ServesBy flash Write words pass given before after from to = Serves flash Write words pass given before after from to
ServesBy flash Unwritten words pass given before after from to = Serves flash Unwritten words pass given before after from to
ServesBy flash TooLong words pass given before after from to = Serves flash TooLong words pass given before after from to
ServesBy flash NoThread words pass given before after from to = Serves flash NoThread words pass given before after from to
ServesBy flash Link words pass given before after from to = ⊥
ServesBy flash Refuted words pass given before after from to = ⊥
