-- What the work of a line has sent once it is done.
use Rattle.std.specs.Prelude.{◌≡◌, ℕ, ◌+◌, ◌≤◌, ◌<◌, List, [], ◌∷◌, ◌++◌, Option, length, All}
use Rattle.std.specs.Io.KnownBytes.{Consumes, IsAtEnd}
use Rattle.ice_base.specs.Counts.{Rose}
use Rattle.ice_inbox.specs.declared.inbox.Note.{Note}
use Rattle.ice_inbox.specs.declared.inbox.Note.TheVariants.{Bytes, LineEnd, LineFault, TooLong, Halted}
use Rattle.ice_inbox.specs.declared.line_work.Heard.{Heard}
use Rattle.ice_inbox.specs.declared.line_work.Heard.TheVariants.{Chunk, Last}
use Rattle.ice_inbox.specs.Notes.{bytes_in, line_limit, EndsOnce}
use Rattle.ice_inbox.specs.Ends.{Sent}

-- the bytes of these notes, in order
abbrev pub bytes_of : List Note → List ℕ
bytes_of [] = []
bytes_of (Bytes bytes ∷ notes) = bytes.items ++ bytes_of notes
bytes_of (LineEnd ∷ notes) = bytes_of notes
bytes_of (LineFault ∷ notes) = bytes_of notes
bytes_of (TooLong ∷ notes) = bytes_of notes
bytes_of (Halted number ∷ notes) = bytes_of notes

-- a note of some bytes
abbrev pub IsChunk : Note → Type 0
IsChunk (Bytes bytes) = 0 < length bytes.items
IsChunk LineEnd = ⊥
IsChunk LineFault = ⊥
IsChunk TooLong = ⊥
IsChunk (Halted number) = ⊥

module _ {S : Type 0} (left : S → Option (List ℕ)) (faults : S → ℕ) where
  -- how a source ended behind so many bytes that were sent, by the last note and the bytes that were read and not sent: it is at its
  -- end; a read failed; or there is one byte more than may be sent
  abbrev pub IsEnded : S → (sent : ℕ) → (unsent : List ℕ) → Note → S → Type 0
  IsEnded before sent unsent (Bytes bytes) after = ⊥
  IsEnded before sent unsent LineEnd after = (unsent ≡ []) × IsAtEnd (left after) × (faults after ≡ faults before)
  IsEnded before sent unsent LineFault after = (unsent ≡ []) × Rose (faults before) (faults after)
  IsEnded before sent unsent TooLong after = (length unsent ≡ 1) × (sent ≡ line_limit) × (faults after ≡ faults before)
  IsEnded before sent unsent (Halted number) after = ⊥

  -- what one read tells, behind so many bytes that were sent
  abbrev pub IsHeard : S → ℕ → Heard → S → Type 0
  IsHeard before sent (Chunk bytes) after =
      (0 < length bytes.items) × (sent + length bytes.items ≤ line_limit) × Consumes (left before) (left after) bytes.items ×
      (faults after ≡ faults before)
  IsHeard before sent (Last note) after =
      (unsent : List ℕ) × Consumes (left before) (left after) unsent × IsEnded before sent unsent note after

  -- the source lost the bytes of these chunks, in order, and those that were not sent; and it ended as this note tells
  pub record IsSent (before : S) (chunks : List Note) (last : Note) (after : S) : Type 0 where
    pub each : All IsChunk chunks
    pub bounded : bytes_in chunks ≤ line_limit
    pub unsent : List ℕ
    pub lost : Consumes (left before) (left after) (bytes_of chunks ++ unsent)
    pub ended : IsEnded before (bytes_in chunks) unsent last after

  -- a sender that had sent nothing has sent the line: its chunks, and then one last note
  pub record SendsLine (before after : S) (old new : Sent) : Type 0 where
    pub inbox : new.inbox ≡ old.inbox
    pub ends : EndsOnce new.sent
    pub sent : IsSent before ends.before ends.last after
