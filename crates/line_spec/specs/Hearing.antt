-- What the tool hears on the line: the host's requests, and bytes that it drops.
use Rattle.std.specs.Prelude.{◌≡◌, ◌≢◌, ℕ, List, [], ◌∷◌, length}
use Rattle.line_spec.specs.declared.limits.TheConstants.{EVENT_NUMBER}
use Rattle.line_spec.specs.Frames.{bytes_of}
use Rattle.line_spec.specs.Cut.{Item, whole, junk}
use Rattle.line_spec.specs.Messages.{Command, IsCommandBody, command_codes, HasCode, IsNoCommand}

-- what a body asks: a command, a code that is not known, or a known code with a wrong length
pub data Request : Type 0 where
  asks : Command → Request
  unknown_code : Request
  wrong_length : Request

-- the body is that request
abbrev pub IsRequest : List ℕ → Request → Type 0
IsRequest body (asks command) = IsCommandBody command body
IsRequest body unknown_code = HasCode command_codes body → ⊥
IsRequest body wrong_length = HasCode command_codes body × IsNoCommand body

-- the number of events; a frame of the host with this number is not answered, and its bytes are dropped
abbrev pub event_number : ℕ
event_number = EVENT_NUMBER

-- what is heard of one item: a request with the number of its frame, or dropped bytes
pub data Heard : Type 0 where
  request : (number : ℕ) → Request → Heard
  dropped : (count : ℕ) → Heard

-- the item is heard so
abbrev pub Hears : Item → Heard → Type 0
Hears (junk byte) heard = heard ≡ dropped 1
Hears (whole frame) (request number asked) = (frame.number ≢ event_number) × (number ≡ frame.number) × IsRequest frame.body asked
Hears (whole frame) (dropped count) = (frame.number ≡ event_number) × (count ≡ length (bytes_of frame))

-- the items are heard so, one by one
abbrev pub HearsAll : List Item → List Heard → Type 0
HearsAll [] [] = Unit {0}
HearsAll (item ∷ items) (one ∷ heard) = Hears item one × HearsAll items heard
HearsAll [] (one ∷ heard) = ⊥
HearsAll (item ∷ items) [] = ⊥
