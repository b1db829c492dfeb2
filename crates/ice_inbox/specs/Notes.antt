-- The notes of an inbox: who sends which, how many bytes they hold, and the last of the line.
use Rattle.std.specs.Prelude.{◌≡◌, ℕ, Bool, true, false, not, ◌||◌, List, [], ◌∷◌, ◌++◌, filter, sum_by, length}
use Rattle.ice_inbox.specs.declared.inbox.Note.{Note}
use Rattle.ice_inbox.specs.declared.inbox.Note.TheVariants.{Bytes, LineEnd, LineFault, TooLong, Halted}

-- the target sends Halted, and the line every other note
abbrev pub is_of_target : Note → Bool
is_of_target (Bytes bytes) = false
is_of_target LineEnd = false
is_of_target LineFault = false
is_of_target TooLong = false
is_of_target (Halted number) = true

abbrev pub is_of_line : Note → Bool
is_of_line note = not (is_of_target note)

-- those of the line among these notes, in their order
abbrev pub of_line : List Note → List Note
of_line notes = filter is_of_line notes

-- those of the target
abbrev pub of_target : List Note → List Note
of_target notes = filter is_of_target notes

-- how many bytes a note holds
abbrev pub size_of : Note → ℕ
size_of (Bytes bytes) = length bytes.items
size_of LineEnd = 0
size_of LineFault = 0
size_of TooLong = 0
size_of (Halted number) = 0

-- how many bytes these notes hold
abbrev pub bytes_in : List Note → ℕ
bytes_in notes = sum_by size_of notes

-- the most bytes that the line sends
abbrev pub line_limit : ℕ
line_limit = 67108864

-- behind such a note the line sends no more
abbrev pub is_last : Note → Bool
is_last (Bytes bytes) = false
is_last LineEnd = true
is_last LineFault = true
is_last TooLong = true
is_last (Halted number) = false

-- one of these notes is the line's last
abbrev pub has_last : List Note → Bool
has_last [] = false
has_last (note ∷ notes) = is_last note || has_last notes

-- the last of these notes alone is the line's last
pub record EndsOnce (notes : List Note) : Type 0 where
  pub before : List Note
  pub last : Note
  pub whole : notes ≡ before ++ last ∷ []
  pub once : has_last before ≡ false
  pub ends : is_last last ≡ true
