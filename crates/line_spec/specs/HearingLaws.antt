-- The laws of what is heard, as facts, and what they count. Each is proved as the contract of a function of `src/heard.rt`.
use Rattle.std.specs.Prelude.{◌≡◌, ℕ, ◌+◌, List, [], ◌∷◌, length}
use Rattle.line_spec.specs.Frames.{bytes_of}
use Rattle.line_spec.specs.Cut.{Item, whole, junk, Cuts}
use Rattle.line_spec.specs.Hearing.{Request, IsRequest, Heard, request, dropped, HearsAll}

-- the bytes of the frames that ask
abbrev pub asking_bytes : List Item → List Heard → ℕ
asking_bytes (whole frame ∷ items) (request number asked ∷ heard) = length (bytes_of frame) + asking_bytes items heard
asking_bytes (whole frame ∷ items) (dropped count ∷ heard) = asking_bytes items heard
asking_bytes (junk byte ∷ items) (one ∷ heard) = asking_bytes items heard
asking_bytes [] heard = 0
asking_bytes (item ∷ items) [] = 0

-- the bytes that are dropped
abbrev pub dropped_bytes : List Heard → ℕ
dropped_bytes [] = 0
dropped_bytes (request number asked ∷ heard) = dropped_bytes heard
dropped_bytes (dropped count ∷ heard) = count + dropped_bytes heard

-- each byte that was cut is one of a frame that asks, or is dropped
abbrev pub EachByteIsHeard : Type 0
EachByteIsHeard = (bytes behind : List ℕ) (items : List Item) (heard : List Heard) → Cuts bytes items behind → HearsAll items heard →
    length bytes ≡ asking_bytes items heard + dropped_bytes heard + length behind

-- a body is one request only
abbrev pub OneRequest : Type 0
OneRequest = (body : List ℕ) (asked other : Request) → IsRequest body asked → IsRequest body other → asked ≡ other
