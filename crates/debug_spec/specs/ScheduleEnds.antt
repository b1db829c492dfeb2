-- The ends of the runs of a schedule: all that is open in it.
use Rattle.std.specs.Prelude.{◌≡◌, Bool, true, false, List, [], ◌∷◌, ◌++◌}
use Rattle.part_spec.specs.Chip.{Chip}
use Rattle.debug_spec.specs.Run.{End}
use Rattle.debug_spec.specs.Debugger.{Debugger}
use Rattle.debug_spec.specs.Running.{MayEnd}
use Rattle.debug_spec.specs.Schedule.{Session, is_awaited, Note, bytes, line_end_note, line_fault, too_long, halted, IsHalted, Takes}
use Rattle.debug_spec.specs.Schedule.{IsSchedule}

-- a run ends, where it is awaited
abbrev pub IsHaltedIf : Bool → Bool → Chip → Session → Session → Type 0
IsHaltedIf awaited planted part before after = elim awaited [ true ↦ IsHalted planted part before after | false ↦ after ≡ before ]

-- its end
abbrev pub halt_ends : (awaited planted : Bool) (part : Chip) (before after : Session) → IsHaltedIf awaited planted part before after →
    List End
halt_ends true planted part before after h = h.end ∷ []
halt_ends false planted part before after h = []

-- the end of a run that a note brings
abbrev pub note_ends : (planted : Bool) (part : Chip) (note : Note) (before after : Session) → Takes planted part note before after →
    List End
note_ends planted part (bytes chunk) before after h = []
note_ends planted part line_end_note before after h = []
note_ends planted part line_fault before after h = []
note_ends planted part too_long before after h = []
note_ends planted part (halted launch) before after h = halt_ends (is_awaited launch before) planted part before after h

-- the ends of runs in a schedule, in order
abbrev pub ends_of : (planted : Bool) (part : Chip) (notes : List Note) (before after : Session) →
    IsSchedule planted part notes before after → List End
ends_of planted part [] before after h = []
ends_of planted part (note ∷ notes) before after h = note_ends planted part note before h.0 h.1 ++ ends_of planted part notes h.0 after h.2

-- with the same ends, a schedule leads to one session only
abbrev pub EndsFixSchedules : Type 0
EndsFixSchedules = (planted : Bool) (part : Chip) (notes : List Note) (before after other : Session) →
    (h : IsSchedule planted part notes before after) → (k : IsSchedule planted part notes before other) →
    ends_of planted part notes before after h ≡ ends_of planted part notes before other k → after ≡ other

-- and an end is open only where a stop was asked for
abbrev pub EndsAreOne : Type 0
EndsAreOne = (planted : Bool) (part : Chip) (s : Debugger) (e f : End) → s.stop_asked ≡ false → MayEnd planted part s e →
    MayEnd planted part s f → e ≡ f
