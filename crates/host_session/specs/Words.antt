-- What a link tells of itself, and how it moves.
use Rattle.std.specs.Prelude.{◌≡◌, ℕ, ◌<◌, List, [], ◌∷◌, ◌++◌, Option, length, take}
use Rattle.std.specs.Io.KnownBytes.{Appends, Consumes, IsAtEnd, Keeps}
use Rattle.ice_base.specs.Counts.{Rose}

-- the words of a kind of link: what was sent and what is to come, where they are told; the count of faults; and what a send and a
-- receive do that worked
pub record Words (L : Type 0) : Type 1 where
  pub sent : L → Option (List ℕ)
  pub incoming : L → Option (List ℕ)
  pub faults : L → ℕ
  pub sends : L → List ℕ → L → Type 0
  pub receives : L → List ℕ → L → Type 0

-- bytes may have come at the end of what is to come, as an answer
abbrev pub MayAnswer : {L : Type 0} → Words L → L → L → Type 0
MayAnswer words before after = (bytes : List ℕ) × Appends (words.incoming before) (words.incoming after) bytes

-- one send of the piece that worked
abbrev pub Sent : {L : Type 0} → Words L → L → List ℕ → L → Type 0
Sent words before piece after = words.sends before piece after × Appends (words.sent before) (words.sent after) piece
    × (words.faults after ≡ words.faults before) × MayAnswer words before after

-- one send of the piece that failed: the count rose, and some front of the piece was sent
abbrev pub SendFailed : {L : Type 0} → Words L → L → List ℕ → L → Type 0
SendFailed words before piece after = ((n : ℕ) × Appends (words.sent before) (words.sent after) (take n piece))
    × Rose (words.faults before) (words.faults after) × MayAnswer words before after

-- one receive that gave these bytes
abbrev pub Received : {L : Type 0} → Words L → L → List ℕ → L → Type 0
Received words before bytes after = words.receives before bytes after × Consumes (words.incoming before) (words.incoming after) bytes
    × Keeps (words.sent before) (words.sent after) × (words.faults after ≡ words.faults before)

-- one receive that gave nothing: what is to come is at its end, where it is told
abbrev pub AtEnd : {L : Type 0} → Words L → L → L → Type 0
AtEnd words before after = Received words before [] after × IsAtEnd (words.incoming after)

-- one receive that failed: the count rose, and nothing was taken
abbrev pub ReceiveFailed : {L : Type 0} → Words L → L → L → Type 0
ReceiveFailed words before after = Keeps (words.incoming before) (words.incoming after) × Keeps (words.sent before) (words.sent after)
    × Rose (words.faults before) (words.faults after)

-- receives that gave these pieces, one after the other, each of some bytes
abbrev pub ReceivedAll : {L : Type 0} → Words L → L → List (List ℕ) → L → Type 0
ReceivedAll words before [] after = before ≡ after
ReceivedAll words before (piece ∷ pieces) after = (middle : _) × (0 < length piece) × Received words before piece middle
    × ReceivedAll words middle pieces after

-- the bytes of the pieces
abbrev pub joined : List (List ℕ) → List ℕ
joined [] = []
joined (piece ∷ pieces) = piece ++ joined pieces

-- the words of a link, one by one
abbrev pub words_of : {L : Type 0} → (L → Option (List ℕ)) → (L → Option (List ℕ)) → (L → ℕ) → (L → List ℕ → L → Type 0)
    → (L → List ℕ → L → Type 0) → Words L
words_of sent incoming faults sends receives =
    record { sent = sent; incoming = incoming; faults = faults; sends = sends; receives = receives }
