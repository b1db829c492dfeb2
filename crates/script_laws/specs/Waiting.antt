-- Frames that wait on a link, and the events that a host has kept of them.
use Rattle.std.specs.Prelude.{◌≡◌, ◌≤◌, ℕ, List, [], ◌∷◌, ◌++◌, length, map}
use Rattle.std.specs.List.{flat_map}
use Rattle.line_spec.specs.Frames.{Frame, bytes_of}
use Rattle.line_spec.specs.Cut.{Item, whole}
use Rattle.line_spec.specs.Messages.{Event as Tale, IsEventBody}
use Rattle.line_spec.specs.Parameters.{Parameter}
use Rattle.ice_msg.specs.declared.event.Event.{Event}
use Rattle.host_session.specs.Words.{Words, Received, AtEnd, ReceiveFailed}
use Rattle.host_session.specs.Hearing.{IsEventFrame, event_number}

-- each of them is so
abbrev pub Each : {A : Type 0} → (A → Type 0) → List A → Type 0
Each P [] = Unit {0}
Each P (x ∷ xs) = P x × Each P xs

-- the bytes of frames, one behind the other
abbrev pub stream : List Frame → List ℕ
stream frames = flat_map bytes_of frames

-- the cut of a front of a stream: the first of its frames
pub record IsFront (frames : List Frame) (items : List Item) (behind rest : List ℕ) : Type 0 where
  pub first : List Frame
  pub later : List Frame
  pub split : frames ≡ first ++ later
  pub items_are : items ≡ map whole first
  pub left : behind ++ rest ≡ stream later

-- a frame with the number of events that tells one
pub record IsEvent (frame : Frame) : Type 0 where
  pub number : frame.number ≡ event_number
  pub told_by : Tale
  pub body : IsEventBody told_by frame.body

-- the events of frames, one for each
abbrev pub AreKept : List Frame → List Event → Type 0
AreKept [] [] = Unit {0}
AreKept (frame ∷ frames) (event ∷ events) = IsEventFrame frame event × AreKept frames events
AreKept [] (event ∷ events) = ⊥
AreKept (frame ∷ frames) [] = ⊥

-- each parameter has a value of a few bytes
abbrev pub AreShort : List Parameter → Type 0
AreShort [] = Unit {0}
AreShort (one ∷ parameters) = (length one.value ≤ 4) × AreShort parameters

-- a link whose bytes to come are known, which never fails, and of which a receive changes nothing besides
pub record GivesStream (L : Type 0) (words : Words L) (waits : L → List ℕ) (Same : L → L → Type 0) : Type 0 where
  pub start : (l : L) → Same l l
  pub onward : (a b c : L) → Same a b → Same b c → Same a c
  pub receive : (a : L) (bytes : List ℕ) (b : L) → Received words a bytes b → (waits a ≡ bytes ++ waits b) × Same a b
  pub at_end : (a b : L) → AtEnd words a b → waits b ≡ []
  pub fails : (a b : L) → ReceiveFailed words a b → ⊥
