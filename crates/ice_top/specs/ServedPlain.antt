-- The headline at a session with a client: its notes beside the plain debugger's over the same notes, and the program that it leaves.
use Rattle.std.specs.Prelude.{◌≡◌, ◌⊎◌, ℕ, List, [], ◌∷◌, true, false}
use Rattle.part_spec.specs.Chip.{Chip}
use Rattle.line_spec.specs.Cut.{Item}
use Rattle.debug_spec.specs.Moved.{Flash}
use Rattle.debug_spec.specs.Clean.{clean_for}
use Rattle.debug_spec.specs.Debugger.{closed, run_out}
use Rattle.debug_spec.specs.SessionLaws.{Grows}
use Rattle.debug_spec.specs.Opening.{opening}
use Rattle.debug_spec.specs.Schedule.{Session, heard_all, Note, bytes, line_end_note, line_fault, too_long, halted}
use Rattle.debug_spec.specs.CutShort.{TakesCutShort}
use Rattle.debug_spec.specs.ServedAlike.{clean_all, frames_all, IsHaltedCleanly, IsCleanSchedule, IsAlikeAtFirst}
use Rattle.ice_inbox.specs.declared.inbox.Note.{Note as Given}
use Rattle.ice_serve.specs.Endings.{EndsBy}
use Rattle.ice_serve.specs.Inbox.{notes_of}
use Rattle.ice_serve.specs.declared.notes.End.{End}
use Rattle.ice_serve.specs.declared.notes.End.TheVariants.{Okay, Flash as Unrestored, Read, Write, TooLong}
use Rattle.ice_top.specs.Replays.{device_of}
use Rattle.ice_top.specs.Servings.{Around, ServedSession}

-- a schedule of the patched debugger is a clean one of the plain debugger; or it is so up to the first run that is not clean, and what the
-- plain debugger has sent up to and with the reply that starts that run stands first in what is sent
abbrev pub IsAlike : Chip → List Note → (before after : Session) → Type 0
IsAlike part notes before after = IsCleanSchedule false part notes before after ⊎ IsAlikeAtFirst part notes before after

-- a note that is cut short, behind the same session of both: where what runs with it is clean it comes to the same for the plain debugger;
-- and in any case both send first what stands up to and with the reply to the first step in it that is not clean
abbrev pub IsCutAlike : (part : Chip) → (note : Note) → (items : List Item) → (before cut : Session) →
    TakesCutShort true part note items before cut → Type 0
IsCutAlike part (bytes chunk) items before cut h =
    (clean_all part h.heard before.state ≡ true → cut.state ≡ heard_all false part h.heard before.state) ×
    Grows (frames_all part h.heard before.state) cut.state.sent ×
    Grows (frames_all part h.heard before.state) (heard_all false part h.heard before.state).sent
IsCutAlike part line_end_note items before cut h = ⊥
IsCutAlike part line_fault items before cut h = ⊥
IsCutAlike part too_long items before cut h = ⊥
IsCutAlike part (halted launch) items before cut h = IsAlike part (halted launch ∷ []) before cut

-- and so by the end: the whole schedule, or that up to the note that was cut short, and this note
abbrev pub GoesAlike : (end : End) → (part : Chip) → (notes : List Note) → (before after : Session) → EndsBy end part notes before after → Type 0
GoesAlike Okay part notes before after goes = IsAlike part notes before after
GoesAlike Unrestored part notes before after goes = IsAlike part notes before after
GoesAlike Read part notes before after goes = IsAlike part notes before after
GoesAlike TooLong part notes before after goes = IsAlike part notes before after
GoesAlike Write part notes before after goes = IsAlike part goes.front before goes.schedule.there ×
    IsCutAlike part goes.note goes.items goes.schedule.there goes.schedule.cut goes.schedule.takes ×
    (after.state.sent ≡ goes.schedule.cut.state.sent)

-- each session over these notes is as the plain debugger's, and leaves the program as last programmed in the flash where no page write of
-- the closing restore failed
pub record AreServedAsPlain {F : Type 0} (flash : Flash F) (taken : List Given) (before after : Around) (from to : F) : Type 0 where
  pub sessions : (end : End) (part : Chip) (program : List ℕ)
      (s : ServedSession flash end part program taken before after from to) →
      GoesAlike end part (notes_of s.notes) (opening part program (device_of (flash.words from) s.asks)) s.last s.goes
  pub program : (end : End) (part : Chip) (program : List ℕ)
      (s : ServedSession flash end part program taken before after from to) → s.last.state.mode ≡ closed true →
      flash.words to ≡ s.last.state.prog
