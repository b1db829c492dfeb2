-- What is heard among the bytes that come: frames, with junk ahead of them.
use Rattle.std.specs.Prelude.{◌≡◌, ◌≢◌, ℕ, List, [], ◌∷◌, ◌++◌, Option, None, Some, ◌⊎◌}
use Rattle.line_spec.specs.declared.limits.TheConstants.{EVENT_NUMBER}
use Rattle.line_spec.specs.Frames.{Frame, Begins, IsPartial}
use Rattle.line_spec.specs.Cut.{Item, Cuts}
use Rattle.line_spec.specs.Messages.{IsEventBody}
use Rattle.ice_frame.specs.Front.{frame_of}
use Rattle.ice_frame.specs.declared.frame.Frame.{Frame as Read}
use Rattle.ice_msg.specs.Reading.{told}
use Rattle.ice_msg.specs.declared.event.Event.{Event}
use Rattle.ice_recv.specs.Receiving.{OnlyJunk}
use Rattle.host_session.specs.Standing.{Arrived}

-- the number of events
abbrev pub event_number : ℕ
event_number = EVENT_NUMBER

-- all bytes that have come
abbrev pub pending_of : Arrived → List ℕ
pending_of arrived = arrived.held ++ arrived.behind

-- some junk items of the cut are gone
pub record SkipsJunk (bytes after : List ℕ) : Type 0 where
  pub items : List Item
  pub cuts : Cuts bytes items after
  pub only : OnlyJunk items

-- the first frame of the cut is taken off, and what is behind it stays, without some of its junk
pub record TakesFirst (frame : Frame) (bytes after : List ℕ) : Type 0 where
  pub at : List ℕ
  pub behind : List ℕ
  pub ahead : SkipsJunk bytes at
  pub begins : Begins frame at behind
  pub rest : SkipsJunk behind after

-- the first frame that has come is handed out; where none has, what is left is less than a frame
abbrev pub HandsNext : List ℕ → Option Read → List ℕ → Type 0
HandsNext before None after = SkipsJunk before after × IsPartial after
HandsNext before (Some read) after = TakesFirst (frame_of read) before after

-- the frame is an event
abbrev pub IsEventFrame : Frame → Event → Type 0
IsEventFrame frame event = (frame.number ≡ event_number) × IsEventBody (told event) frame.body

-- one who awaits the number passes over the frame: it has another number; an event is kept
abbrev pub PassesOver : ℕ → Frame → List Event → Type 0
PassesOver wanted frame kept = (frame.number ≢ wanted)
    × (((frame.number ≢ event_number) × (kept ≡ [])) ⊎ ((event : Event) × IsEventFrame frame event × (kept ≡ event ∷ [])))

-- all these frames are passed over, and these events of them are kept, in their order
abbrev pub PassesOverAll : ℕ → List Frame → List Event → Type 0
PassesOverAll wanted [] kept = kept ≡ []
PassesOverAll wanted (frame ∷ frames) kept = (first later : List Event) × PassesOver wanted frame first × PassesOverAll wanted frames later
    × (kept ≡ first ++ later)
