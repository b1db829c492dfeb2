-- The laws of sessions, as facts: what holds of a debugger at every moment, and of its device at the end.
use Rattle.std.specs.Prelude.{◌≡◌, ◌⊎◌, ℕ, ◌<◌, None, Some, Bool, true, false, List, [], ◌++◌, length}
use Rattle.std.specs.List.{All}
use Rattle.line_spec.specs.Frames.{Frame, IsPartial, IsBytes}
use Rattle.part_spec.specs.Chip.{Chip, words_of}
use Rattle.part_spec.specs.Pages.{page_of}
use Rattle.debug_spec.specs.Patch.{without, patch}
use Rattle.debug_spec.specs.Run.{End}
use Rattle.debug_spec.specs.RunLaws.{AllPlantable}
use Rattle.debug_spec.specs.Device.{IsOutcome, Device}
use Rattle.debug_spec.specs.PageLaws.{LeadsTo}
use Rattle.line_spec.specs.Hearing.{Heard}
use Rattle.debug_spec.specs.Debugger.{Mode, stopped, launching, running, programming, leaving, closed, Debugger, opened, listens, is_out}
use Rattle.debug_spec.specs.Debugger.{targets}
use Rattle.debug_spec.specs.Running.{line_end, launch_if_prepared, replant, run_ended, MayEnd}
use Rattle.debug_spec.specs.Commands.{item, item_launched}
use Rattle.debug_spec.specs.Replay.{end_now, settled, over_all, IsReplay}
use Rattle.debug_spec.specs.Schedule.{Note, Session, IsPiece, IsChunk, IsSchedule}

-- the device has the words of the part, and each failed page write to come leaves the words of a page
pub record IsFit (part : Chip) (d : Device) : Type 0 where
  pub size : length d.words ≡ words_of part
  pub outcomes : All IsOutcome d.outcomes

-- the device holds the breakpoints of a run, but for one at its start
abbrev pub IsPlanted : Debugger → Type 0
IsPlanted s = s.device.words ≡ patch s.prog (without s.machine.pc (targets s))

-- what the mode says: only a run goes to an address; the device is planted from the launch of a run to its end, and the program where
-- it was restored; while the flash is programmed there is no software breakpoint
abbrev pub IsInMode : Mode → Debugger → Type 0
IsInMode stopped s = s.run_to ≡ None
IsInMode (launching number) s = IsPlanted s
IsInMode running s = IsPlanted s
IsInMode programming s = (s.soft ≡ []) × (s.run_to ≡ None)
IsInMode leaving s = IsPlanted s × (s.stop_asked ≡ true)
IsInMode (closed restored) s = restored ≡ true → s.device.words ≡ s.prog

-- what holds of a debugger at every moment
pub record IsSound (part : Chip) (s : Debugger) : Type 0 where
  pub program : length s.prog ≡ words_of part
  pub device : IsFit part s.device
  pub plants : AllPlantable part s.prog (targets s)
  pub in_mode : IsInMode s.mode s

-- a list is a front of another
abbrev pub Grows : List Frame → List Frame → Type 0
Grows front frames = (more : List Frame) × (frames ≡ front ++ more)

-- one moment of a session and a later one: what holds is kept, what was asked of the device in between leads from the one to the
-- other, and what was sent stays so
pub record Moves (part : Chip) (before after : Debugger) : Type 0 where
  pub sound : IsSound part before → IsSound part after
  pub leads : LeadsTo before.device after.device
  pub sent : Grows before.sent after.sent

-- each event of a session is such a move
pub record EventsMove : Type 0 where
  pub item : (planted : Bool) (part : Chip) (heard : Heard) (s : Debugger) → Moves part s (item planted part heard s)
  pub launch : (part : Chip) (s : Debugger) → Moves part s (launch_if_prepared s)
  pub item_launched : (planted : Bool) (part : Chip) (heard : Heard) (s : Debugger) → Moves part s (item_launched planted part heard s)
  pub line_end : (part : Chip) (held : List ℕ) (s : Debugger) → Moves part s (line_end part held s)
  pub end : (planted : Bool) (part : Chip) (e : End) (s : Debugger) → Moves part s (run_ended planted part e s)

-- an item changes the program only while the flash is programmed, and then only in pages that the device has so
pub record MayProgram (before after : Debugger) : Type 0 where
  pub stays : (before.mode ≡ programming → ⊥) → after.prog ≡ before.prog
  pub pages : (page : ℕ) →
      (page_of after.prog page ≡ page_of before.prog page) ⊎ (page_of after.prog page ≡ page_of after.device.words page)

-- the program changes by programming alone
pub record OnlyProgrammingChanges : Type 0 where
  pub item : (planted : Bool) (part : Chip) (heard : Heard) (s : Debugger) → IsSound part s → MayProgram s (item planted part heard s)
  pub launch : (s : Debugger) → (launch_if_prepared s).prog ≡ s.prog
  pub line_end : (part : Chip) (held : List ℕ) (s : Debugger) → (line_end part held s).prog ≡ s.prog
  pub end : (planted : Bool) (part : Chip) (e : End) (s : Debugger) → (run_ended planted part e s).prog ≡ s.prog

-- an item with its launch is the item and then the launch, unless a launch is still to be answered; and what happens between two
-- items happens once
pub record ItemsSettle : Type 0 where
  pub launched : (planted : Bool) (part : Chip) (heard : Heard) (s : Debugger) → ((number : ℕ) → s.mode ≡ launching number → ⊥) →
      item_launched planted part heard s ≡ launch_if_prepared (item planted part heard s)
  pub once : (planted : Bool) (part : Chip) (stops : List ℕ) (s : Debugger) →
      settled planted part stops (settled planted part stops s) ≡ settled planted part stops s

-- a session begins so
abbrev pub OpenedIsSound : Type 0
OpenedIsSound = (part : Chip) (prog : List ℕ) (d : Device) → length prog ≡ words_of part → IsFit part d →
    IsSound part (opened part prog d) × LeadsTo d (opened part prog d).device

-- while a run is out its breakpoints may be planted; in its first step the device is the patch of them without the start, and behind
-- that, where the replant did not fail, the patch of them all
pub record RunIsPlanted (part : Chip) (s : Debugger) : Type 0 where
  pub plants : AllPlantable part s.prog (targets s)
  pub first : s.device.words ≡ patch s.prog (without s.machine.pc (targets s))
  pub later : (replant s).ok ≡ true → (replant s).device.words ≡ patch s.prog (targets s)

-- they are so at every moment
abbrev pub RunsArePlanted : Type 0
RunsArePlanted = (part : Chip) (s : Debugger) → IsSound part s → is_out s.mode ≡ true → RunIsPlanted part s

-- the session is closed
abbrev pub is_closed : Mode → Bool
is_closed stopped = false
is_closed (launching number) = false
is_closed running = false
is_closed programming = false
is_closed leaving = false
is_closed (closed restored) = true

-- a session over a device: what was asked leads from the device at entry to the device at exit; a closing restore that did not fail
-- leaves the debugger's program there, which is the program as last programmed
pub record LeavesProgram (device : Device) (end : Debugger) : Type 0 where
  pub leads : LeadsTo device end.device
  pub restored : end.mode ≡ closed true → end.device.words ≡ end.prog

-- each replay closes the session so
abbrev pub ReplaysClose : Type 0
ReplaysClose = (planted : Bool) (part : Chip) (stops prog : List ℕ) (device : Device) (heard : List Heard) (held : List ℕ) →
    length prog ≡ words_of part → IsFit part device →
    let end = over_all planted part stops heard held (opened part prog device) in
    (is_closed end.mode ≡ true) × LeavesProgram device end

-- a chunk of two parts is the one and then the other
abbrev pub ChunksGoOn : Type 0
ChunksGoOn = (planted : Bool) (part : Chip) (first second : List ℕ) (before between after : Session) →
    IsChunk planted part first before between → IsChunk planted part second between after →
    IsChunk planted part (first ++ second) before after

-- and the other way: where the first part leads to a session, the second leads from there to where the whole does
abbrev pub ChunksDivide : Type 0
ChunksDivide = (planted : Bool) (part : Chip) (first second : List ℕ) (before between after : Session) →
    IsChunk planted part first before between → IsChunk planted part (first ++ second) before after →
    IsChunk planted part second between after

-- a chunk may be heard in parts, until the debugger listens no more or no frame waits
pub record PartsMakeChunks : Type 0 where
  pub onward : (planted : Bool) (part : Chip) (first second : List ℕ) (before between after : Session) →
      IsPiece planted part first before between → listens between.state.mode ≡ true → IsPiece planted part second between after →
      IsPiece planted part (first ++ second) before after
  pub whole : (planted : Bool) (part : Chip) (bytes : List ℕ) (before after : Session) → listens before.state.mode ≡ true →
      IsPiece planted part bytes before after → (listens after.state.mode ≡ true → IsPartial after.held) →
      IsChunk planted part bytes before after

-- a chunk leads to one session only
abbrev pub OneChunk : Type 0
OneChunk = (planted : Bool) (part : Chip) (bytes : List ℕ) (before after other : Session) →
    IsChunk planted part bytes before after → IsChunk planted part bytes before other → after ≡ other

-- the ends of runs in a replay are ends that they may have in a schedule
abbrev pub EndsNowMayCome : Type 0
EndsNowMayCome = (planted : Bool) (part : Chip) (steps : ℕ) (s : Debugger) (e : End) → 0 < steps → is_out s.mode ≡ true →
    end_now planted part steps s ≡ Some e → MayEnd planted part s e

-- a line has one replay only
abbrev pub OneReplay : Type 0
OneReplay = (planted : Bool) (part : Chip) (stops prog : List ℕ) (device : Device) (bytes : List ℕ) (end other : Debugger) →
    IsReplay planted part stops prog device bytes end → IsReplay planted part stops prog device bytes other → end ≡ other

-- no law of them is about nothing: every line of bytes has a replay, and every chunk of bytes leads to a session
pub record EveryLineIsHeard : Type 0 where
  pub replay : (planted : Bool) (part : Chip) (stops prog : List ℕ) (device : Device) (bytes : List ℕ) → IsBytes bytes →
      (end : Debugger) × IsReplay planted part stops prog device bytes end
  pub chunk : (planted : Bool) (part : Chip) (bytes : List ℕ) (before : Session) → IsBytes (before.held ++ bytes) →
      (after : Session) × IsChunk planted part bytes before after

-- each schedule that closes the session does so too
abbrev pub SchedulesLeaveProgram : Type 0
SchedulesLeaveProgram = (planted : Bool) (part : Chip) (prog : List ℕ) (device : Device) (notes : List Note) (after : Session) →
    length prog ≡ words_of part → IsFit part device →
    IsSchedule planted part notes (record { held = []; state = opened part prog device }) after →
    LeavesProgram device after.state
