-- What the patched debugger and the plain one have in common over a schedule of notes.
use Rattle.std.specs.Prelude.{◌≡◌, ◌↔◌, ◌⊎◌, ℕ, ◌&&◌, Bool, true, false, List, [], ◌∷◌, ◌++◌}
use Rattle.part_spec.specs.Chip.{Chip}
use Rattle.line_spec.specs.Frames.{Frame}
use Rattle.line_spec.specs.Hearing.{Heard}
use Rattle.debug_spec.specs.Clean.{clean_for}
use Rattle.debug_spec.specs.Debugger.{Debugger, listens, run_out}
use Rattle.debug_spec.specs.Commands.{item_launched}
use Rattle.debug_spec.specs.Schedule.{Session, IsHeard, IsHalted, line_ended, is_awaited, Note, bytes, line_end_note, line_fault, too_long}
use Rattle.debug_spec.specs.Schedule.{halted, Takes, IsSchedule}
use Rattle.debug_spec.specs.CleanSessions.{clean_heard, started}
use Rattle.debug_spec.specs.SessionLaws.{IsSound, Grows}

-- what items of the line run at once is clean
abbrev pub clean_all : Chip → List Heard → Debugger → Bool
clean_all part [] s = true
clean_all part (one ∷ heard) s = clean_heard part one s && clean_all part heard (item_launched false part one s)

-- the frames sent up to and with the reply to the first single step that is not clean
abbrev pub frames_all : Chip → List Heard → Debugger → List Frame
frames_all part [] s = s.sent
frames_all part (one ∷ heard) s = elim (clean_heard part one s) [
  | true ↦ frames_all part heard (item_launched false part one s)
  | false ↦ started one s
]

-- a chunk is heard, and what it runs at once is clean
pub record IsHeardCleanly (planted : Bool) (part : Chip) (bytes : List ℕ) (before after : Session) : Type 0 where
  pub heard_so : IsHeard planted part bytes before after
  pub clean : clean_all part heard_so.heard before.state ≡ true

-- the run that is out ends, and was clean to its end
pub record IsHaltedCleanly (planted : Bool) (part : Chip) (before after : Session) : Type 0 where
  pub halted_so : IsHalted planted part before after
  pub clean : clean_for part (run_out false before.state) halted_so.end.steps ≡ true

-- a note that is taken, with what runs with it clean
abbrev pub TakesCleanly : Bool → Chip → Note → Session → Session → Type 0
TakesCleanly planted part (bytes chunk) before after =
    elim (listens before.state.mode) [ true ↦ IsHeardCleanly planted part chunk before after | false ↦ after ≡ before ]
TakesCleanly planted part line_end_note before after = after ≡ line_ended part before
TakesCleanly planted part line_fault before after = after ≡ line_ended part before
TakesCleanly planted part too_long before after = after ≡ line_ended part before
TakesCleanly planted part (halted launch) before after =
    elim (is_awaited launch before) [ true ↦ IsHaltedCleanly planted part before after | false ↦ after ≡ before ]

-- a schedule whose runs are all clean
abbrev pub IsCleanSchedule : Bool → Chip → List Note → Session → Session → Type 0
IsCleanSchedule planted part [] before after = after ≡ before
IsCleanSchedule planted part (note ∷ notes) before after =
    (between : Session) × TakesCleanly planted part note before between × IsCleanSchedule planted part notes between after

-- where all runs of a schedule are clean, it is one of both debuggers
abbrev pub CleanSchedulesAlike : Type 0
CleanSchedulesAlike = (part : Chip) (notes : List Note) (before after : Session) → IsSound part before.state →
    IsCleanSchedule true part notes before after ↔ IsCleanSchedule false part notes before after

-- a clean schedule is a schedule
abbrev pub CleanIsSchedule : Type 0
CleanIsSchedule = (planted : Bool) (part : Chip) (notes : List Note) (before after : Session) →
    IsCleanSchedule planted part notes before after → IsSchedule planted part notes before after

-- with a note something runs that is not clean, and these frames are sent up to and with the reply that starts it, or more
abbrev pub StartsUnclean : Chip → Note → Session → Session → List Frame → Type 0
StartsUnclean part (bytes chunk) before after frames =
    (h : IsHeard true part chunk before after) × (clean_all part h.heard before.state ≡ false) ×
    (frames ≡ frames_all part h.heard before.state)
StartsUnclean part line_end_note before after frames = ⊥
StartsUnclean part line_fault before after frames = ⊥
StartsUnclean part too_long before after frames = ⊥
StartsUnclean part (halted launch) before after frames =
    (h : IsHalted true part before after) × (clean_for part (run_out false before.state) h.end.steps ≡ false) × (frames ≡ before.state.sent)

-- a schedule of the patched debugger up to its first run that is not clean: so far it is a clean one of the plain debugger, and what
-- the plain debugger has sent by then stands first in what is sent
pub record IsAlikeAtFirst (part : Chip) (notes : List Note) (before after : Session) : Type 0 where
  pub front : List Note
  pub note : Note
  pub more : List Note
  pub split : notes ≡ front ++ note ∷ more
  pub between : Session
  pub unclean : Session
  pub clean_front : IsCleanSchedule false part front before between
  pub takes : Takes true part note between unclean
  pub goes_on : IsSchedule true part more unclean after
  pub frames : List Frame
  pub starts : StartsUnclean part note between unclean frames
  pub sent : Grows frames after.state.sent

-- each schedule of the patched debugger is a clean one of the plain debugger, or is so up to the first run that is not clean
abbrev pub SchedulesAlike : Type 0
SchedulesAlike = (part : Chip) (notes : List Note) (before after : Session) → IsSound part before.state →
    IsSchedule true part notes before after →
    IsCleanSchedule false part notes before after ⊎ IsAlikeAtFirst part notes before after
