-- What one receive adds to the bytes that have come.
use Rattle.std.specs.Prelude.{◌≡◌, ℕ, ◌<◌, ◌≤◌, List, ◌++◌, length}
use Rattle.host_session.specs.Standing.{Arrived}
use Rattle.host_session.specs.Words.{Words, Received, AtEnd, ReceiveFailed}
use Rattle.host_session.specs.Hearing.{pending_of}
use Rattle.host_session.specs.declared.inbox.Next.{Next}
use Rattle.host_session.specs.declared.inbox.Next.TheVariants.{Bytes, End, Fault}

-- some bytes are added, at most so many; or none is, at the end or at a fault
abbrev pub ReceivesNext : {L : Type 0} → Words L → L → L → ℕ → Arrived → Arrived → Next → Type 0
ReceivesNext words before after most arrived now (Bytes count) = (bytes : List ℕ) × (length bytes ≡ count) × (0 < count) × (count ≤ most)
    × Received words before bytes after × (pending_of now ≡ pending_of arrived ++ bytes)
ReceivesNext words before after most arrived now End = AtEnd words before after × (pending_of now ≡ pending_of arrived)
ReceivesNext words before after most arrived now Fault = ReceiveFailed words before after × (pending_of now ≡ pending_of arrived)
