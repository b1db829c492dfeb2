-- The notes of the inbox, as the book has them.
use Rattle.std.specs.Prelude.{◌≡◌, List, ◌++◌, map}
use Rattle.debug_spec.specs.Schedule.{bytes, line_end_note, line_fault, too_long, halted}
use Rattle.debug_spec.specs.Schedule.{Note as Told}
use Rattle.ice_inbox.specs.declared.inbox.Note.{Note}
use Rattle.ice_inbox.specs.declared.inbox.Note.TheVariants.{Bytes, LineEnd, LineFault, TooLong, Halted}

-- the book's note for one of the inbox
abbrev pub note_of : Note → Told
note_of (Bytes chunk) = bytes chunk.items
note_of LineEnd = line_end_note
note_of LineFault = line_fault
note_of TooLong = too_long
note_of (Halted number) = halted number

abbrev pub notes_of : List Note → List Told
notes_of notes = map note_of notes

-- of all notes taken the first are those while the session was open, and something is said of them
pub record SessionGoes (taken : List Note) (says : List Told → Type 0) : Type 0 where
  pub notes : List Note
  pub later : List Note
  pub whole : taken ≡ notes ++ later
  pub goes : says (notes_of notes)
