-- What all notes of a session do: a schedule, or one that is cut short where bytes could not be written.
use Rattle.std.specs.Prelude.{◌≡◌, true, List, ◌∷◌, ◌++◌}
use Rattle.part_spec.specs.Chip.{Chip}
use Rattle.line_spec.specs.Cut.{Item}
use Rattle.debug_spec.specs.Debugger.{listens}
use Rattle.debug_spec.specs.Schedule.{Session, Note, line_ended, Takes, IsSchedule}
use Rattle.debug_spec.specs.CutShort.{TakesCutShort, IsScheduleCutShort}
use Rattle.ice_serve.specs.Causes.{cause_by, cause_of}
use Rattle.ice_serve.specs.declared.note.Why.{Why}
use Rattle.ice_serve.specs.declared.note.Why.TheVariants.{Okay, Read, Write, TooLong}

-- a note that brings this cause is taken whole; where bytes could not be written it is cut short, and the line ends there
abbrev pub NoteDoes : Why → Note → Chip → Session → Session → Type 0
NoteDoes Okay note part before after = Takes true part note before after × (cause_by note (listens before.state.mode) ≡ Okay)
NoteDoes Read note part before after = Takes true part note before after × (cause_by note (listens before.state.mode) ≡ Read)
NoteDoes Write note part before after = (items : List Item) × (cut : Session) × TakesCutShort true part note items before cut ×
    (after ≡ line_ended part cut)
NoteDoes TooLong note part before after = Takes true part note before after × (cause_by note (listens before.state.mode) ≡ TooLong)

-- a schedule that brings this cause
pub record IsScheduled (part : Chip) (notes : List Note) (why : Why) (before after : Session) : Type 0 where
  pub schedule : IsSchedule true part notes before after
  pub cause : cause_of part notes before after schedule ≡ why

-- a schedule that is cut short in one of the notes, ahead of which no other cause came
pub record IsScheduledCut (part : Chip) (notes : List Note) (before after : Session) : Type 0 where
  pub front : List Note
  pub note : Note
  pub items : List Item
  pub more : List Note
  pub whole : notes ≡ front ++ note ∷ more
  pub schedule : IsScheduleCutShort true part front note items more before after
  pub cause : cause_of part front before schedule.there schedule.first ≡ Okay

-- and so by the cause
abbrev pub GoesBy : Why → Chip → List Note → Session → Session → Type 0
GoesBy Okay part notes before after = IsScheduled part notes Okay before after
GoesBy Read part notes before after = IsScheduled part notes Read before after
GoesBy Write part notes before after = IsScheduledCut part notes before after
GoesBy TooLong part notes before after = IsScheduled part notes TooLong before after
