-- The laws of sessions that are cut short, as facts.
use Rattle.std.specs.Prelude.{◌≡◌, ℕ, ◌+◌, Bool, true, false, List, [], ◌∷◌, ◌++◌, length}
use Rattle.part_spec.specs.Chip.{Chip, words_of}
use Rattle.line_spec.specs.Frames.{IsBytes}
use Rattle.line_spec.specs.Cut.{Item, Cuts}
use Rattle.debug_spec.specs.Run.{End}
use Rattle.debug_spec.specs.Device.{Device}
use Rattle.debug_spec.specs.Debugger.{Debugger, opened, listens}
use Rattle.debug_spec.specs.Running.{MayEnd}
use Rattle.debug_spec.specs.Replay.{over, IsReplay, EndsWithFrame, IsReplayCutShort}
use Rattle.debug_spec.specs.Schedule.{Session, line_ended, is_awaited, Note, bytes, line_end_note, line_fault, too_long, halted, IsChunk}
use Rattle.debug_spec.specs.Schedule.{IsSchedule}
use Rattle.debug_spec.specs.SessionLaws.{IsFit, IsSound, Grows, is_closed, LeavesProgram}
use Rattle.debug_spec.specs.ScheduleEnds.{ends_of}
use Rattle.debug_spec.specs.CutShort.{IsChunkCutShort, TakesCutShort, IsScheduleCutShort}

-- each frame of a line of bytes has a replay that is cut short behind it
abbrev pub EveryFrameIsCutShort : Type 0
EveryFrameIsCutShort = (planted : Bool) (part : Chip) (stops prog : List ℕ) (device : Device) (bytes : List ℕ) (items : List Item)
    (behind : List ℕ) →
    IsBytes bytes → Cuts bytes items behind → EndsWithFrame items →
    (end : Debugger) × IsReplayCutShort planted part stops prog device bytes items end

-- and one only
abbrev pub OneCutShort : Type 0
OneCutShort = (planted : Bool) (part : Chip) (stops prog : List ℕ) (device : Device) (bytes : List ℕ) (items : List Item)
    (end other : Debugger) →
    IsReplayCutShort planted part stops prog device bytes items end → IsReplayCutShort planted part stops prog device bytes items other →
    end ≡ other

-- what it shows, beside the debugger once it has answered that frame: the bytes held behind the frame are dropped once, where the
-- session did not end with it; no frame more is sent, and so those sent are the first of the replay's; the session is closed
pub record CutShortShows (planted : Bool) (part : Chip) (stops prog : List ℕ) (device : Device) (bytes : List ℕ) (items : List Item)
    (end : Debugger) (h : IsReplayCutShort planted part stops prog device bytes items end) : Type 0 where
  pub counted : let s = over planted part stops h.heard (opened part prog device) in
      listens s.mode ≡ true → end.dropped ≡ s.dropped + length h.held
  pub not_counted : let s = over planted part stops h.heard (opened part prog device) in
      listens s.mode ≡ false → end.dropped ≡ s.dropped
  pub sent : end.sent ≡ (over planted part stops h.heard (opened part prog device)).sent
  pub first : (whole : Debugger) → IsReplay planted part stops prog device bytes whole → Grows end.sent whole.sent
  pub closes : is_closed end.mode ≡ true
  pub leaves : LeavesProgram device end

-- each does
abbrev pub CutsShortShow : Type 0
CutsShortShow = (planted : Bool) (part : Chip) (stops prog : List ℕ) (device : Device) (bytes : List ℕ) (items : List Item)
    (end : Debugger) →
    length prog ≡ words_of part → IsFit part device → IsBytes bytes →
    (h : IsReplayCutShort planted part stops prog device bytes items end) →
    CutShortShows planted part stops prog device bytes items end h

-- each frame of a chunk that is listened to, and each end of a run, has a schedule that is cut short behind it
pub record EveryNoteIsCutShort : Type 0 where
  pub frame : (planted : Bool) (part : Chip) (front : List Note) (chunk : List ℕ) (items : List Item) (more : List Note)
      (before there : Session) (behind : List ℕ) →
      IsSchedule planted part front before there → IsSound part there.state → listens there.state.mode ≡ true →
      IsBytes (there.held ++ chunk) →
      Cuts (there.held ++ chunk) items behind → EndsWithFrame items →
      (after : Session) × IsScheduleCutShort planted part front (bytes chunk) items more before after
  pub halt : (planted : Bool) (part : Chip) (front : List Note) (launch : ℕ) (more : List Note) (before there : Session) (e : End) →
      IsSchedule planted part front before there → IsSound part there.state → is_awaited launch there ≡ true →
      MayEnd planted part there.state e →
      (after : Session) × IsScheduleCutShort planted part front (halted launch) [] more before after

-- the end of a run that the note brings behind which the schedule is cut short
abbrev pub cut_ends : (planted : Bool) (part : Chip) (note : Note) (items : List Item) (before after : Session) →
    TakesCutShort planted part note items before after → List End
cut_ends planted part (bytes chunk) items before after h = []
cut_ends planted part line_end_note items before after h = []
cut_ends planted part line_fault items before after h = []
cut_ends planted part too_long items before after h = []
cut_ends planted part (halted launch) items before after h = h.2.end ∷ []

-- and one only, with the same ends of runs
abbrev pub OneScheduleCutShort : Type 0
OneScheduleCutShort = (planted : Bool) (part : Chip) (front : List Note) (note : Note) (items : List Item) (more : List Note)
    (before after other : Session) →
    (h : IsScheduleCutShort planted part front note items more before after) →
    (k : IsScheduleCutShort planted part front note items more before other) →
    ends_of planted part front before h.there h.first ≡ ends_of planted part front before k.there k.first →
    cut_ends planted part note items h.there h.cut h.takes ≡ cut_ends planted part note items k.there k.cut k.takes →
    ends_of planted part more (line_ended part h.cut) after h.later ≡ ends_of planted part more (line_ended part k.cut) other k.later →
    after ≡ other

-- what it shows, beside the session that was cut: the bytes held are dropped once, where the session had not ended; nothing more is
-- sent, and nothing is held or listened to
pub record ScheduleCutShows (cut after : Session) : Type 0 where
  pub counted : listens cut.state.mode ≡ true → after.state.dropped ≡ cut.state.dropped + length cut.held
  pub not_counted : listens cut.state.mode ≡ false → after.state.dropped ≡ cut.state.dropped
  pub sent : after.state.sent ≡ cut.state.sent
  pub held : after.held ≡ []
  pub deaf : listens after.state.mode ≡ false

-- each does; of a chunk that is cut short nothing is sent that the whole chunk does not send first; and a session that closes so leaves
-- the program in the device
pub record SchedulesCutShortShow : Type 0 where
  pub shows : (planted : Bool) (part : Chip) (front : List Note) (note : Note) (items : List Item) (more : List Note)
      (before after : Session) →
      (h : IsScheduleCutShort planted part front note items more before after) → ScheduleCutShows h.cut after
  pub first : (planted : Bool) (part : Chip) (chunk : List ℕ) (items : List Item) (there cut whole : Session) →
      IsBytes (there.held ++ chunk) →
      IsChunkCutShort planted part chunk items there cut → IsChunk planted part chunk there whole → Grows cut.state.sent whole.state.sent
  pub leaves : (planted : Bool) (part : Chip) (prog : List ℕ) (device : Device) (front : List Note) (note : Note) (items : List Item)
      (more : List Note) (after : Session) →
      length prog ≡ words_of part → IsFit part device →
      IsScheduleCutShort planted part front note items more (record { held = []; state = opened part prog device }) after →
      LeavesProgram device after.state
