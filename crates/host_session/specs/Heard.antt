-- What a frame is to one who awaits a number.
use Rattle.std.specs.Prelude.{◌≡◌, ◌≢◌, ℕ, List, ◌++◌, length}
use Rattle.line_spec.specs.Frames.{Frame}
use Rattle.line_spec.specs.Messages.{IsNoEvent}
use Rattle.ice_frame.specs.Front.{frame_of}
use Rattle.ice_msg.specs.declared.event.Event.{Event}
use Rattle.host_session.specs.Hearing.{PassesOver, IsEventFrame, event_number}
use Rattle.host_session.specs.Awaiting.{kept_limit}
use Rattle.host_session.specs.declared.awaiting.Heard.{Heard}
use Rattle.host_session.specs.declared.awaiting.Heard.TheVariants.{Passed, Wanted, NoEvent, Full}

-- it is passed over, and kept where it is an event; or it is the awaited one; or it has the number of events and is none; or there is
-- no room for its event
abbrev pub IsHeard : ℕ → Frame → List Event → List Event → Heard → Type 0
IsHeard wanted frame kept now Passed = (events : List Event) × PassesOver wanted frame events × (now ≡ kept ++ events)
IsHeard wanted frame kept now (Wanted read) = (frame_of read ≡ frame) × (frame.number ≡ wanted) × (now ≡ kept)
IsHeard wanted frame kept now (NoEvent read) = (frame_of read ≡ frame) × (frame.number ≢ wanted) × (frame.number ≡ event_number)
    × IsNoEvent frame.body × (now ≡ kept)
IsHeard wanted frame kept now (Full event) = (frame.number ≢ wanted) × IsEventFrame frame event × (length kept ≡ kept_limit) × (now ≡ kept)
