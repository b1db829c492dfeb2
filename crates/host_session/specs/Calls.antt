-- What the calls of a host answer.
use Rattle.std.specs.Prelude.{◌≡◌, ℕ, List, [], ◌∷◌, ◌⊎◌, ◌+◌, ◌==◌, if◌then◌else◌, Result, Ok, Err}
use Rattle.line_spec.specs.Frames.{Frame, bytes_of}
use Rattle.line_spec.specs.Messages.{Command, IsEventBody, IsNoEvent, Response, IsResponseBody, IsNoResponse, command_body, ignored_written}
use Rattle.ice_frame.specs.Front.{frame_of}
use Rattle.ice_frame.specs.declared.frame.Frame.{Frame as Read}
use Rattle.ice_msg.specs.Reading.{told}
use Rattle.ice_msg.specs.declared.event.Event.{Event}
use Rattle.host_session.specs.Standing.{Standing}
use Rattle.host_session.specs.Words.{Words, Sent, SendFailed}
use Rattle.host_session.specs.Hearing.{event_number}
use Rattle.host_session.specs.Awaiting.{EndsAt, AwaitFails}
use Rattle.host_session.specs.declared.error.HostError.{HostError}
use Rattle.host_session.specs.declared.error.HostError.TheVariants.{Link, NoReply, Closed, BadReply, EventsFull}

-- the number behind this one: the number of events is left out
abbrev pub next_number : ℕ → ℕ
next_number number = if number == 0xFFFE then 0 else number + 1

-- the bytes of a command with this number
abbrev pub command_bytes : ℕ → Command → List ℕ
command_bytes number command = bytes_of (record { number = number; body = command_body command (ignored_written command) })

-- the command was sent, and nothing else changed
pub record Asks {L : Type 0} (words : Words L) (number : ℕ) (command : Command) (before at : Standing L) : Type 0 where
  pub sent : Sent words before.link (command_bytes number command) at.link
  pub pending : at.pending ≡ before.pending
  pub kept : at.kept ≡ before.kept

-- the command could not be sent, and nothing else changed
pub record AskFails {L : Type 0} (words : Words L) (number : ℕ) (command : Command) (before after : Standing L) : Type 0 where
  pub failed : SendFailed words before.link (command_bytes number command) after.link
  pub pending : after.pending ≡ before.pending
  pub kept : after.kept ≡ before.kept

-- why a command got no reply: it could not be sent; or it was, and then no frame with its number came; or that frame's body is no response
abbrev pub RequestFails : {L : Type 0} → Words L → ℕ → Command → Standing L → HostError → Standing L → Type 0
RequestFails words number command before Link after = AskFails words number command before after
    ⊎ ((at : Standing _) × Asks words number command before at × AwaitFails words number at Link after)
RequestFails words number command before NoReply after =
    (at : Standing _) × Asks words number command before at × AwaitFails words number at NoReply after
RequestFails words number command before Closed after =
    (at : Standing _) × Asks words number command before at × AwaitFails words number at Closed after
RequestFails words number command before (BadReply read) after =
    (at : Standing _) × Asks words number command before at × (AwaitFails words number at (BadReply read) after
    ⊎ (EndsAt words number at (frame_of read) after × (read.seq ≡ number) × IsNoResponse read.body.items))
RequestFails words number command before (EventsFull event) after =
    (at : Standing _) × Asks words number command before at × AwaitFails words number at (EventsFull event) after

-- some response has this body
abbrev pub IsAnswer : List ℕ → Type 0
IsAnswer body = (response : Response) × IsResponseBody response body

-- the reply that the frame is, or that its body is no response
abbrev pub IsReply : Read → Result Frame HostError → Type 0
IsReply read (Ok frame) = (frame ≡ frame_of read) × IsAnswer frame.body
IsReply read (Err error) = (error ≡ BadReply read) × IsNoResponse read.body.items

-- the command was sent, and its reply is the first frame with its number; or why there is none
abbrev pub Requests : {L : Type 0} → Words L → ℕ → Command → Standing L → Result Frame HostError → Standing L → Type 0
Requests words number command before (Ok frame) after =
    (at : Standing _) × Asks words number command before at × EndsAt words number at frame after × (frame.number ≡ number)
    × IsAnswer frame.body
Requests words number command before (Err error) after = RequestFails words number command before error after

-- why no event came: a frame with the number of events whose body is no event ends the call too, and no event is kept on the way
abbrev pub EventFails : {L : Type 0} → Words L → Standing L → HostError → Standing L → Type 0
EventFails words before Link after = AwaitFails words event_number before Link after
EventFails words before NoReply after = AwaitFails words event_number before NoReply after
EventFails words before Closed after = AwaitFails words event_number before Closed after
EventFails words before (BadReply read) after = EndsAt words event_number before (frame_of read) after × (read.seq ≡ event_number)
    × IsNoEvent read.body.items
EventFails words before (EventsFull event) after = ⊥

-- an event comes: the first frame with the number of events
abbrev pub EventComes : {L : Type 0} → Words L → Standing L → Result Event HostError → Standing L → Type 0
EventComes words before (Ok event) after = (frame : Frame) × EndsAt words event_number before frame after × (frame.number ≡ event_number)
    × IsEventBody (told event) frame.body
EventComes words before (Err error) after = EventFails words before error after

-- the oldest kept event is given, and nothing else changes; where none is kept, the next that comes
abbrev pub GivesEvent : {L : Type 0} → Words L → List Event → Standing L → Result Event HostError → Standing L → Type 0
GivesEvent words [] before result after = EventComes words before result after
GivesEvent words (event ∷ kept) before result after = (result ≡ Ok event) × (after ≡ record before { kept = kept })

-- the piece was sent, or it could not be
abbrev pub Sends : {L T E : Type 0} → Words L → L → List ℕ → Result T E → L → Type 0
Sends words before piece (Ok sent) after = Sent words before piece after
Sends words before piece (Err failed) after = SendFailed words before piece after
