-- A schedule with the session behind each of its notes.
use Rattle.std.specs.Prelude.{◌≡◌, ◌↔◌, ◌⊎◌, Bool, false, List, [], ◌∷◌, ⊤}
use Rattle.std.specs.List.{All}
use Rattle.part_spec.specs.Chip.{Chip}
use Rattle.line_spec.specs.Frames.{Frame}
use Rattle.line_spec.specs.Hearing.{Heard}
use Rattle.debug_spec.specs.Debugger.{Debugger}
use Rattle.debug_spec.specs.Schedule.{Session, heard_all, Note, Takes, IsSchedule}
use Rattle.debug_spec.specs.SessionLaws.{IsSound, Grows}
use Rattle.debug_spec.specs.ServedAlike.{frames_all, TakesCleanly, StartsUnclean}

-- the notes lead from one session to the next
abbrev pub Passes : Bool → Chip → List Note → Session → List Session → Type 0
Passes planted part [] before [] = ⊤
Passes planted part (note ∷ notes) before (after ∷ sessions) =
    Takes planted part note before after × Passes planted part notes after sessions
Passes planted part [] before (after ∷ sessions) = ⊥
Passes planted part (note ∷ notes) before [] = ⊥

-- the last of some sessions
abbrev pub last_of : Session → List Session → Session
last_of before [] = before
last_of before (after ∷ sessions) = last_of after sessions

-- so does a schedule, and what does is one
abbrev pub SchedulesPass : Type 0
SchedulesPass = (planted : Bool) (part : Chip) (notes : List Note) (before after : Session) →
    IsSchedule planted part notes before after ↔
    ((sessions : List Session) × Passes planted part notes before sessions × (last_of before sessions ≡ after))

-- the frames are the first that each of these sessions has sent
abbrev pub AllSendFirst : List Frame → List Session → Type 0
AllSendFirst frames sessions = All (λ (s : Session). Grows frames s.state.sent) sessions

-- the plain debugger passes these sessions too, up to the note that makes or ends a run that is not clean: what it has sent up to and
-- with the reply that starts that run is sent first from there on
abbrev pub PassesAlike : Chip → List Note → Session → List Session → Type 0
PassesAlike part [] before [] = ⊤
PassesAlike part (note ∷ notes) before (after ∷ sessions) =
    (TakesCleanly false part note before after × PassesAlike part notes after sessions) ⊎
    ((frames : List Frame) × StartsUnclean part note before after frames × AllSendFirst frames (after ∷ sessions))
PassesAlike part [] before (after ∷ sessions) = ⊥
PassesAlike part (note ∷ notes) before [] = ⊥

-- both debuggers, told the same items, send first what stands up to and with the reply to the first single step that is not clean
abbrev pub ItemsSendFirst : Type 0
ItemsSendFirst = (planted : Bool) (part : Chip) (heard : List Heard) (s : Debugger) → IsSound part s →
    Grows (frames_all part heard s) (heard_all planted part heard s).sent
