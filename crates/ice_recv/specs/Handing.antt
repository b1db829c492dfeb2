-- What a receiver takes and hands out, call after call.
use Rattle.std.specs.Prelude.{◌≡◌, ℕ, ◌+◌, List, [], ◌∷◌, ◌++◌, Option, None, Some}
use Rattle.line_spec.specs.Frames.{Frame, Begins}
use Rattle.line_spec.specs.Cut.{Item, whole, junk, Cuts, IsCut}
use Rattle.ice_frame.specs.Front.{frame_of}
use Rattle.ice_frame.specs.declared.frame.Frame.{Frame as Read}
use Rattle.ice_recv.specs.Received.{Received}
use Rattle.ice_recv.specs.Receiving.{Waits, Drops, counted}

-- the frame waited, it is taken off, and the junk ahead of the next one is dropped
abbrev pub Takes : Received → Frame → Received → Type 0
Takes before frame after = (behind : List ℕ) × Begins frame before.held behind × Drops behind before.dropped after

-- the waiting frame is handed out; none where no frame waits, and then all stays
abbrev pub Hands : Received → Option Read → Received → Type 0
Hands before None after = (Waits before.held → ⊥) × (after ≡ before)
Hands before (Some read) after = Takes before (frame_of read) after

-- one call: bytes are fed and taken, or a frame is handed out
pub data Call : Type 0 where
  feeds : (bytes : List ℕ) → Call
  hands : Frame → Call

-- the calls lead from one state to the other
abbrev pub Leads : Received → List Call → Received → Type 0
Leads before [] after = before ≡ after
Leads before (feeds bytes ∷ calls) after = (middle : Received) × Drops (before.held ++ bytes) before.dropped middle × Leads middle calls after
Leads before (hands frame ∷ calls) after = (middle : Received) × Takes before frame middle × Leads middle calls after

-- all bytes taken
abbrev pub taken_by : List Call → List ℕ
taken_by [] = []
taken_by (feeds bytes ∷ calls) = bytes ++ taken_by calls
taken_by (hands frame ∷ calls) = taken_by calls

-- the frames handed out
abbrev pub handed_by : List Call → List Frame
handed_by [] = []
handed_by (feeds bytes ∷ calls) = handed_by calls
handed_by (hands frame ∷ calls) = frame ∷ handed_by calls

-- the frames among the items
abbrev pub frames_in : List Item → List Frame
frames_in [] = []
frames_in (whole frame ∷ items) = frame ∷ frames_in items
frames_in (junk byte ∷ items) = frames_in items

-- how many items are junk
abbrev pub junk_in : List Item → ℕ
junk_in [] = 0
junk_in (whole frame ∷ items) = junk_in items
junk_in (junk byte ∷ items) = 1 + junk_in items

-- the bytes held before and all bytes taken are these items and then the bytes held: the frames handed out are, in order, the frames among the items,
-- the junk among them is counted, and any cut of these bytes begins with the items and goes on with the cut of what is held
pub record FollowsCut (before : Received) (calls : List Call) (after : Received) : Type 0 where
  pub items : List Item
  pub cuts : Cuts (before.held ++ taken_by calls) items after.held
  pub frames : handed_by calls ≡ frames_in items
  pub count : after.dropped ≡ counted before.dropped (junk_in items)
  pub goes_on : (all : List Item) (rest : List ℕ) → IsCut (before.held ++ taken_by calls) all rest
      → (others : List Item) × (all ≡ items ++ others) × IsCut after.held others rest
