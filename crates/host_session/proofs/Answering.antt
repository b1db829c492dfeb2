-- What a call answers, from what it awaited.
use Rattle.std.proofs.Common.{◌≡◌, ℕ, inl, inr, true, List, Result, Ok, Err, is_err, sym, subst, ap, ◌∙◌}
use Rattle.line_spec.specs.Frames.{Frame}
use Rattle.line_spec.specs.Messages.{Command, IsNoResponse}
use Rattle.ice_frame.specs.Front.{frame_of}
use Rattle.ice_frame.specs.declared.frame.Frame.{Frame as Read}
use Rattle.ice_msg.specs.Reading.{ReadsResponse}
use Rattle.ice_msg.specs.declared.bad.Bad.{Bad}
use Rattle.ice_msg.specs.declared.bad.Bad.TheVariants.{Code, Length}
use Rattle.ice_msg.specs.declared.response.Response.{Response}
use Rattle.ice_msg.proofs.Replies.{response_has_code}
use Rattle.host_session.specs.Standing.{Hosted, Standing}
use Rattle.host_session.specs.Words.{Words, Sent}
use Rattle.host_session.specs.Hearing.{event_number}
use Rattle.host_session.specs.Awaiting.{EndsAt, AwaitFails}
use Rattle.host_session.specs.Calls.{Asks, RequestFails, Requests, EventFails, IsReply, command_bytes}
use Rattle.host_session.specs.declared.error.HostError.{HostError}
use Rattle.host_session.specs.declared.error.HostError.TheVariants.{Link, NoReply, Closed, BadReply, EventsFull}

-- a body that could not be read is no response
pub unread_response : (body : List ℕ) (bad : Bad) → ReadsResponse body (Err bad) → IsNoResponse body
unread_response body Code none response b = none (response_has_code body response b)
unread_response body Length none response b = none.1 response b

pub is_unread : (body : List ℕ) (answer : Result Response Bad) → ReadsResponse body answer → is_err answer ≡ true → IsNoResponse body
is_unread body (Ok response) r e = cc
is_unread body (Err bad) r e = unread_response body bad r

-- the command was sent with its number, by the host as it was opened
pub asked_at : {L : Type 0} (words : Words L) (number taken : ℕ) (command : Command) (before : Standing L) (opened host : Hosted L)
    (link : L) → opened ≡ host → host.standing ≡ before → taken ≡ number
    → Sent words opened.standing.link (command_bytes taken command) link
    → Asks words number command before (record { link = link; pending = opened.standing.pending; kept = opened.standing.kept })
asked_at words number taken command before opened host link o h n s =
    let start : opened.standing ≡ before = ap (λ (t : Hosted _). t.standing) o ∙ h in
    let P : ℕ → Type 0 = λ k. Sent words opened.standing.link (command_bytes k command) link in
    let Q : _ → Type 0 = λ l. Sent words l (command_bytes number command) link in
    record {
      sent = subst Q (ap (λ (t : Standing _). t.link) start) (subst P n s);
      pending = ap (λ (t : Standing _). t.pending) start;
      kept = ap (λ (t : Standing _). t.kept) start;
    }

-- no frame with the number came
pub request_fails : {L : Type 0} (words : Words L) (number taken : ℕ) (command : Command) (before at : Standing L) (error : HostError)
    (after : Standing L) → taken ≡ number → Asks words number command before at → AwaitFails words taken at error after
    → RequestFails words number command before error after
request_fails words number taken command before at error after n a f =
    let P : ℕ → Type 0 = λ k. AwaitFails words k at error after in
    fails error (subst P n f)
  where
    fails : (error : HostError) → AwaitFails words number at error after → RequestFails words number command before error after
    fails Link f = inr (at, a, f)
    fails NoReply f = (at, a, f)
    fails Closed f = (at, a, f)
    fails (BadReply read) f = (at, a, inl f)
    fails (EventsFull event) f = (at, a, f)

-- a frame with the number came
pub request_ends : {L : Type 0} (words : Words L) (number taken : ℕ) (command : Command) (before at : Standing L) (read : Read)
    (result : Result Frame HostError) (after : Standing L) → taken ≡ number → Asks words number command before at
    → EndsAt words taken at (frame_of read) after → read.seq ≡ taken → IsReply read result
    → Requests words number command before result after
request_ends words number taken command before at read result after n a e same r =
    let P : ℕ → Type 0 = λ k. EndsAt words k at (frame_of read) after in
    ends result (subst P n e) (same ∙ n) r
  where
    ends : (result : Result Frame HostError) → EndsAt words number at (frame_of read) after → read.seq ≡ number → IsReply read result
        → Requests words number command before result after
    ends (Ok frame) e same r =
        let Q : Frame → Type 0 = λ f. EndsAt words number at f after in
        (at, a, subst Q (sym r.0) e, ap (λ (f : Frame). f.number) r.0 ∙ same, r.1)
    ends (Err error) e same r =
        let Q : HostError → Type 0 = λ x. RequestFails words number command before x after in
        subst Q (sym r.0) (at, a, inr (e, same, r.1))

-- no frame with the number of events came; one that has it was awaited, so none was passed over
pub event_fails : {L : Type 0} (words : Words L) (before middle : Standing L) (error : HostError) (after : Standing L) → middle ≡ before
    → AwaitFails words event_number middle error after → EventFails words before error after
event_fails words before middle error after m f =
    let P : Standing _ → Type 0 = λ t. AwaitFails words event_number t error after in
    fails error (subst P m f)
  where
    fails : (error : HostError) → AwaitFails words event_number before error after → EventFails words before error after
    fails Link f = f
    fails NoReply f = f
    fails Closed f = f
    fails (BadReply read) f = absurd (f.1 f.2)
    fails (EventsFull event) f = f.2 f.3.0
