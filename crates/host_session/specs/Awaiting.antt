-- How a frame is awaited.
use Rattle.std.specs.Prelude.{◌≡◌, ◌≢◌, ℕ, ◌<◌, ◌≤◌, List, ◌++◌, length, Result, Ok, Err}
use Rattle.line_spec.specs.Frames.{Frame, Begins, IsPartial}
use Rattle.line_spec.specs.Cut.{Item, Cuts}
use Rattle.line_spec.specs.Messages.{IsNoEvent}
use Rattle.ice_frame.specs.Front.{frame_of}
use Rattle.ice_frame.specs.declared.frame.Frame.{Frame as Read}
use Rattle.ice_base.specs.Counts.{Rose}
use Rattle.ice_msg.specs.declared.event.Event.{Event}
use Rattle.ice_recv.specs.Handing.{frames_in}
use Rattle.host_session.specs.Standing.{Standing}
use Rattle.host_session.specs.Words.{Words, ReceivedAll, AtEnd, ReceiveFailed, joined}
use Rattle.host_session.specs.Hearing.{SkipsJunk, IsEventFrame, PassesOverAll, event_number}
use Rattle.host_session.specs.declared.error.HostError.{HostError}
use Rattle.host_session.specs.declared.error.HostError.TheVariants.{Link, NoReply, Closed, BadReply, EventsFull}

-- the most bytes that one call receives
abbrev pub receive_limit : ℕ
receive_limit = 1000000

-- the most events that a host keeps
abbrev pub kept_limit : ℕ
kept_limit = 64

-- bytes were received: the bytes pending before and then these are items, up to what is pending now; the frames among them were passed
-- over, and their events kept
pub record Hears {L : Type 0} (words : Words L) (wanted : ℕ) (before after : Standing L) : Type 0 where
  pub pieces : List (List ℕ)
  pub items : List Item
  pub events : List Event
  pub received : ReceivedAll words before.link pieces after.link
  pub limit : length (joined pieces) ≤ receive_limit
  pub cuts : Cuts (before.pending ++ joined pieces) items after.pending
  pub passed : PassesOverAll wanted (frames_in items) events
  pub kept : after.kept ≡ before.kept ++ events

-- the call ends at this frame, the first that is not passed over; the bytes behind it stay, but for junk items of their cut
pub record EndsAt {L : Type 0} (words : Words L) (wanted : ℕ) (before : Standing L) (frame : Frame) (after : Standing L) : Type 0 where
  pub at : Standing L
  pub heard : Hears words wanted before at
  pub behind : List ℕ
  pub begins : Begins frame at.pending behind
  pub rest : SkipsJunk behind after.pending
  pub link : after.link ≡ at.link
  pub kept : after.kept ≡ at.kept

-- the call ends at no frame: all that came were passed over, less than a frame is left, and more could be received
pub record EndsAtNone {L : Type 0} (words : Words L) (wanted : ℕ) (before at after : Standing L) : Type 0 where
  pub heard : Hears words wanted before at
  pub partial : IsPartial at.pending
  pub more : length (joined heard.pieces) < receive_limit
  pub pending : after.pending ≡ at.pending
  pub kept : after.kept ≡ at.kept

-- no frame with the number came, for this cause
abbrev pub AwaitFails : {L : Type 0} → Words L → ℕ → Standing L → HostError → Standing L → Type 0
AwaitFails words wanted before Link after = (at : Standing _) × EndsAtNone words wanted before at after
    × ReceiveFailed words at.link after.link
AwaitFails words wanted before NoReply after = (heard : Hears words wanted before after) × IsPartial after.pending
    × (length (joined heard.pieces) ≡ receive_limit)
AwaitFails words wanted before Closed after = (at : Standing _) × EndsAtNone words wanted before at after
    × AtEnd words at.link after.link
AwaitFails words wanted before (BadReply read) after = EndsAt words wanted before (frame_of read) after × (read.seq ≢ wanted)
    × (read.seq ≡ event_number) × IsNoEvent read.body.items
AwaitFails words wanted before (EventsFull event) after = (frame : Frame) × EndsAt words wanted before frame after × (frame.number ≢ wanted)
    × IsEventFrame frame event × (length after.kept ≡ kept_limit)

-- what an error tells of the link's count of faults: it rose where the link failed, and stood still otherwise
abbrev pub ErrorTellsFault : HostError → ℕ → ℕ → Type 0
ErrorTellsFault Link before now = Rose before now
ErrorTellsFault NoReply before now = now ≡ before
ErrorTellsFault Closed before now = now ≡ before
ErrorTellsFault (BadReply read) before now = now ≡ before
ErrorTellsFault (EventsFull event) before now = now ≡ before

-- what an answer tells of the link's count of faults
abbrev pub TellsFault : {T : Type 0} → Result T HostError → ℕ → ℕ → Type 0
TellsFault (Ok answer) before now = now ≡ before
TellsFault (Err error) before now = ErrorTellsFault error before now

-- the first frame with the number, or why none came
abbrev pub Awaits : {L : Type 0} → Words L → ℕ → Standing L → Result Read HostError → Standing L → Type 0
Awaits words wanted before (Ok read) after = EndsAt words wanted before (frame_of read) after × (read.seq ≡ wanted)
Awaits words wanted before (Err error) after = AwaitFails words wanted before error after
