-- Why a session that is served ends, as its notes tell.
use Rattle.std.specs.Prelude.{Bool, true, false, List, [], ◌∷◌}
use Rattle.part_spec.specs.Chip.{Chip}
use Rattle.debug_spec.specs.Debugger.{listens}
use Rattle.debug_spec.specs.Schedule.{Session, Note, bytes, line_end_note, line_fault, too_long, halted, IsSchedule}
use Rattle.ice_serve.specs.declared.note.Why.{Why}
use Rattle.ice_serve.specs.declared.note.Why.TheVariants.{Okay, Read, Write, TooLong}

-- the cause that a note brings, told whether the debugger listened: a line that fails, or is too long, does not matter to a session that
-- has ended already
abbrev pub cause_by : Note → Bool → Why
cause_by (bytes chunk) listening = Okay
cause_by line_end_note listening = Okay
cause_by line_fault listening = elim listening [ true ↦ Read | false ↦ Okay ]
cause_by too_long listening = elim listening [ true ↦ TooLong | false ↦ Okay ]
cause_by (halted launch) listening = Okay

-- the cause that the end of the line brings, told whether the debugger listened
abbrev pub cause_if : Bool → Why → Why
cause_if true why = why
cause_if false why = Okay

-- the first cause decides
abbrev pub first_cause : Why → Why → Why
first_cause Okay later = later
first_cause Read later = Read
first_cause Write later = Write
first_cause TooLong later = TooLong

-- the cause that a schedule brings
abbrev pub cause_of : (part : Chip) (notes : List Note) (before after : Session) → IsSchedule true part notes before after → Why
cause_of part [] before after h = Okay
cause_of part (note ∷ notes) before after h =
    first_cause (cause_by note (listens before.state.mode)) (cause_of part notes h.0 after h.2)
