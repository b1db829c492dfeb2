-- What the calls of a host come to, where its link gives a stream of whole frames.
use Rattle.std.proofs.Common.{◌≡◌, ◌≢◌, ℕ, ◌+◌, ◌<◌, ◌≤◌, List, [], ◌∷◌, ◌++◌, length, map, refl, sym, ◌∙◌, ap, subst, arith}
use Rattle.std.proofs.Common.{append_assoc, append-nil, length-append, ◌⊎◌, inl, inr}
use Rattle.std.specs.Prelude.{Result, Ok, Err}
use Rattle.line_spec.specs.Frames.{Frame, IsFrame}
use Rattle.line_spec.specs.Cut.{whole}
use Rattle.line_spec.specs.Messages.{Command, IsEventBody, IsResponseBody, IsNoResponse}
use Rattle.line_spec.proofs.Cuts.{Cuts-whole}
use Rattle.ice_frame.specs.Front.{frame_of}
use Rattle.ice_msg.specs.Reading.{told}
use Rattle.ice_msg.specs.declared.event.Event.{Event}
use Rattle.ice_recv.specs.Receiving.{OnlyJunk}
use Rattle.ice_recv.specs.Handing.{frames_in}
use Rattle.host_session.specs.Standing.{Standing}
use Rattle.host_session.specs.Words.{Words, ReceivedAll, AtEnd, SendFailed, joined}
use Rattle.host_session.specs.Hearing.{IsEventFrame, PassesOverAll, event_number}
use Rattle.host_session.specs.Awaiting.{Hears, EndsAt, EndsAtNone, AwaitFails, receive_limit, kept_limit}
use Rattle.host_session.specs.Calls.{Asks, Requests, EventFails, EventComes, GivesEvent, IsAnswer, command_bytes}
use Rattle.host_session.specs.declared.error.HostError.{HostError}
use Rattle.host_session.specs.declared.error.HostError.TheVariants.{Link, NoReply, Closed, BadReply, EventsFull}
use Rattle.script_laws.specs.Waiting.{Each, stream, IsEvent, AreKept, GivesStream}
use Rattle.script_laws.proofs.Streams.{each-right, front_of, ended, no_junk, frames_of_whole}

pub kept-length : (frames : List Frame) (events : List Event) → AreKept frames events → length frames ≡ length events
kept-length [] [] h = refl
kept-length (frame ∷ frames) (event ∷ events) h = omega (arith, kept-length frames events h.1)
kept-length [] (event ∷ events) h = absurd h
kept-length (frame ∷ frames) [] h = absurd h

-- events that are passed over are kept
passed_events : (wanted : ℕ) (waiting : List Frame) (events : List Event) → Each IsEvent waiting → PassesOverAll wanted waiting events →
    AreKept waiting events
passed_events wanted [] events all e = subst (AreKept []) (sym e) tt
passed_events wanted (frame ∷ waiting) events all p = by_kind p.2.1 (passed_events wanted waiting p.1 all.1 p.3)
  where
    by_kind : ((frame.number ≢ event_number) × (p.0 ≡ [])) ⊎ ((event : Event) × IsEventFrame frame event × (p.0 ≡ event ∷ [])) →
        AreKept waiting p.1 → AreKept (frame ∷ waiting) events
    by_kind (inl other) later = absurd (other.0 all.0.number)
    by_kind (inr one) later =
        subst (AreKept (frame ∷ waiting)) (sym (p.4 ∙ ap (λ (t : List Event). t ++ p.1) one.2)) (one.1, later)

-- at most one is kept of each frame
passed-length : (wanted : ℕ) (frames : List Frame) (events : List Event) → PassesOverAll wanted frames events → length events ≤ length frames
passed-length wanted [] events e = omega (arith, ap length e)
passed-length wanted (frame ∷ frames) events p = by_kind p.2.1 (passed-length wanted frames p.1 p.3)
  where
    by_kind : ((frame.number ≢ event_number) × (p.0 ≡ [])) ⊎ ((event : Event) × IsEventFrame frame event × (p.0 ≡ event ∷ [])) →
        length p.1 ≤ length frames → length events ≤ length (frame ∷ frames)
    by_kind (inl other) later = omega (arith, ap length p.4, length-append p.0 p.1, ap length other.1, later)
    by_kind (inr one) later = omega (arith, ap length p.4, length-append p.0 p.1, ap length one.2, later)

-- the reply behind events is the first frame with its number
reply_at : (number : ℕ) (reply frame : Frame) (waiting first events later : List Frame) (kept : List Event) → Each IsEvent waiting →
    reply.number ≡ number → number ≢ event_number → frame.number ≡ number → PassesOverAll number first kept →
    waiting ++ reply ∷ events ≡ first ++ frame ∷ later → (first ≡ waiting) × (frame ≡ reply) × (later ≡ events)
reply_at number reply frame [] [] events later kept all is apart same p e =
    let one : frame ≡ reply = cc in let rest : later ≡ events = cc in (refl, one, rest)
reply_at number reply frame [] (f ∷ first) events later kept all is apart same p e =
    let one : f ≡ reply = cc in absurd (p.2.0 (ap (λ (x : Frame). x.number) one ∙ is))
reply_at number reply frame (w ∷ waiting) [] events later kept all is apart same p e =
    let one : frame ≡ w = cc in absurd (apart (sym same ∙ ap (λ (x : Frame). x.number) one ∙ all.0.number))
reply_at number reply frame (w ∷ waiting) (f ∷ first) events later kept all is apart same p e =
    let one : w ≡ f = cc in
    let rest : waiting ++ reply ∷ events ≡ first ++ frame ∷ later = cc in
    let r = reply_at number reply frame waiting first events later p.1 all.1 is apart same p.3 rest in
    (ap (λ (t : List Frame). f ∷ t) r.0 ∙ ap (λ (x : Frame). x ∷ waiting) (sym one), r.1, r.2)

-- another frame that ends the call stands among the events ahead of it
before_reply : (number : ℕ) (reply frame : Frame) (waiting first events later : List Frame) (kept : List Event) →
    reply.number ≡ number → frame.number ≢ number → PassesOverAll number first kept →
    waiting ++ reply ∷ events ≡ first ++ frame ∷ later → (length first < length waiting) × (Each IsEvent waiting → IsEvent frame)
before_reply number reply frame [] [] events later kept is other p e =
    let one : frame ≡ reply = cc in absurd (other (ap (λ (x : Frame). x.number) one ∙ is))
before_reply number reply frame [] (f ∷ first) events later kept is other p e =
    let one : f ≡ reply = cc in absurd (p.2.0 (ap (λ (x : Frame). x.number) one ∙ is))
before_reply number reply frame (w ∷ waiting) [] events later kept is other p e =
    let one : w ≡ frame = cc in (omega arith, λ all. subst IsEvent one all.0)
before_reply number reply frame (w ∷ waiting) (f ∷ first) events later kept is other p e =
    let rest : waiting ++ reply ∷ events ≡ first ++ frame ∷ later = cc in
    let r = before_reply number reply frame waiting first events later p.1 is other p.3 rest in
    (omega (arith, r.0), λ all. r.1 all.1)

-- all were not passed over
not_all : (number : ℕ) (reply : Frame) (waiting events : List Frame) (kept : List Event) → reply.number ≡ number →
    PassesOverAll number (waiting ++ reply ∷ events) kept → ⊥
not_all number reply [] events kept is p = p.2.0 is
not_all number reply (w ∷ waiting) events kept is p = not_all number reply waiting events p.1 is p.3

one_whole : (frame : Frame) (frames : List Frame) → whole frame ∷ [] ≡ map whole frames → frames ≡ frame ∷ []
one_whole frame [] e = absurd (cc)
one_whole frame (f ∷ []) e = let same : f ≡ frame = cc in ap (λ (x : Frame). x ∷ []) same
one_whole frame (f ∷ g ∷ frames) e = absurd (cc)

-- a request that was sent, and what came then: the reply is the first frame with its number; or why there is none
abbrev pub RestFails : {L : Type 0} → Words L → ℕ → Standing L → HostError → Standing L → Type 0
RestFails words number at Link after = AwaitFails words number at Link after
RestFails words number at NoReply after = AwaitFails words number at NoReply after
RestFails words number at Closed after = AwaitFails words number at Closed after
RestFails words number at (BadReply read) after = AwaitFails words number at (BadReply read) after
    ⊎ (EndsAt words number at (frame_of read) after × (read.seq ≡ number) × IsNoResponse read.body.items)
RestFails words number at (EventsFull event) after = AwaitFails words number at (EventsFull event) after

abbrev pub RequestsAt : {L : Type 0} → Words L → ℕ → Standing L → Result Frame HostError → Standing L → Type 0
RequestsAt words number at (Ok frame) after = EndsAt words number at frame after × (frame.number ≡ number) × IsAnswer frame.body
RequestsAt words number at (Err error) after = RestFails words number at error after

pub asked_first : {L : Type 0} (words : Words L) (number : ℕ) (command : Command) (before : Standing L) (result : Result Frame HostError)
    (after : Standing L) → ((link : L) → SendFailed words before.link (command_bytes number command) link → ⊥) →
    Requests words number command before result after →
    (at : Standing L) × Asks words number command before at × RequestsAt words number at result after
asked_first words number command before (Ok frame) after never r = (r.0, r.1, (r.2, r.3, r.4))
asked_first words number command before (Err Link) after never (inl f) = absurd (never after.link f.failed)
asked_first words number command before (Err Link) after never (inr f) = (f.0, f.1, f.2)
asked_first words number command before (Err NoReply) after never f = (f.0, f.1, f.2)
asked_first words number command before (Err Closed) after never f = (f.0, f.1, f.2)
asked_first words number command before (Err (BadReply read)) after never f = (f.0, f.1, f.2)
asked_first words number command before (Err (EventsFull event)) after never f = (f.0, f.1, f.2)

module _ (L : Type 0) (words : Words L) (waits : L → List ℕ) (Same : L → L → Type 0) (g : GivesStream L words waits Same) where
  received_all : (a : L) (pieces : List (List ℕ)) (b : L) → ReceivedAll words a pieces b → (waits a ≡ joined pieces ++ waits b) × Same a b
  received_all a [] b e = (ap waits e, subst (λ (l : L). Same a l) e (g.start a))
  received_all a (piece ∷ pieces) b r =
      let first = g.receive a piece r.0 r.2 in
      let later = received_all r.0 pieces b r.3 in (
        first.0 ∙ ap (λ (t : List ℕ). piece ++ t) later.0 ∙ sym (append_assoc piece (joined pieces) (waits b)),
        g.onward a r.0 b first.1 later.1,
      )

  -- no call of a host changes anything else of the link
  same_at_end : (words_at : ℕ) (before : Standing L) (frame : Frame) (after : Standing L) → EndsAt words words_at before frame after →
      Same before.link after.link
  same_at_end wanted before frame after e =
      subst (λ (l : L). Same before.link l) (sym e.link) (received_all before.link e.heard.pieces e.at.link e.heard.received).1

  same_awaiting : (wanted : ℕ) (before : Standing L) (error : HostError) (after : Standing L) → AwaitFails words wanted before error after →
      Same before.link after.link
  same_awaiting wanted before Link after f = absurd (g.fails f.0.link after.link f.2)
  same_awaiting wanted before NoReply after f = (received_all before.link f.0.pieces after.link f.0.received).1
  same_awaiting wanted before Closed after f = g.onward before.link f.0.link after.link
      (received_all before.link f.1.heard.pieces f.0.link f.1.heard.received).1 (g.receive f.0.link [] after.link f.2.0).1
  same_awaiting wanted before (BadReply read) after f = same_at_end wanted before (frame_of read) after f.0
  same_awaiting wanted before (EventsFull event) after f = same_at_end wanted before f.0 after f.1

  pub same_request : (number : ℕ) (at : Standing L) (result : Result Frame HostError) (after : Standing L) →
      RequestsAt words number at result after → Same at.link after.link
  same_request number at (Ok frame) after r = same_at_end number at frame after r.0
  same_request number at (Err Link) after r = same_awaiting number at Link after r
  same_request number at (Err NoReply) after r = same_awaiting number at NoReply after r
  same_request number at (Err Closed) after r = same_awaiting number at Closed after r
  same_request number at (Err (BadReply read)) after (inl r) = same_awaiting number at (BadReply read) after r
  same_request number at (Err (BadReply read)) after (inr r) = same_at_end number at (frame_of read) after r.0
  same_request number at (Err (EventsFull event)) after r = same_awaiting number at (EventsFull event) after r

  same_coming : (before : Standing L) (result : Result Event HostError) (after : Standing L) → EventComes words before result after →
      Same before.link after.link
  same_coming before (Ok event) after c = same_at_end event_number before c.0 after c.1
  same_coming before (Err Link) after c = same_awaiting event_number before Link after c
  same_coming before (Err NoReply) after c = same_awaiting event_number before NoReply after c
  same_coming before (Err Closed) after c = same_awaiting event_number before Closed after c
  same_coming before (Err (BadReply read)) after c = same_at_end event_number before (frame_of read) after c.0
  same_coming before (Err (EventsFull event)) after c = absurd c

  pub same_event : (kept : List Event) (before : Standing L) (result : Result Event HostError) (after : Standing L) →
      GivesEvent words kept before result after → Same before.link after.link
  same_event [] before result after c = same_coming before result after c
  same_event (event ∷ kept) before result after c = subst (λ (t : Standing L). Same before.link t.link) (sym c.1) (g.start before.link)

  -- what has come and not been taken, and what waits in the link, are these frames
  abbrev pub Streams : Standing L → List Frame → Type 0
  Streams at frames = at.pending ++ waits at.link ≡ stream frames

  -- the first of them were passed over
  record HeardSo (wanted : ℕ) (before after : Standing L) (frames : List Frame) (got : ℕ) : Type 0 where
    first : List Frame
    later : List Frame
    split : frames ≡ first ++ later
    events : List Event
    passed : PassesOverAll wanted first events
    kept : after.kept ≡ before.kept ++ events
    streams : Streams after later
    same : Same before.link after.link
    within : got ≤ length (stream frames)

  heard_so : (wanted : ℕ) (before after : Standing L) (frames : List Frame) → Each IsFrame frames → Streams before frames →
      (h : Hears words wanted before after) → HeardSo wanted before after frames (length (joined h.pieces))
  heard_so wanted before after frames all s h =
      let r = received_all before.link h.pieces after.link h.received in
      let e : (before.pending ++ joined h.pieces) ++ waits after.link ≡ stream frames =
      append_assoc before.pending (joined h.pieces) (waits after.link) ∙ ap (λ (t : List ℕ). before.pending ++ t) (sym r.0) ∙ s in
      let f = front_of frames h.items (before.pending ++ joined h.pieces) after.pending (waits after.link) all e h.cuts in
      record {
        first = f.first;
        later = f.later;
        split = f.split;
        events = h.events;
        passed = subst (λ (t : List Frame). PassesOverAll wanted t h.events) (ap frames_in f.items_are ∙ frames_of_whole f.first) h.passed;
        kept = h.kept;
        streams = f.left;
        same = r.1;
        within = omega (
          arith,
          ap length e,
          length-append (before.pending ++ joined h.pieces) (waits after.link),
          length-append before.pending (joined h.pieces),
        );
      }

  -- and then this frame ended the call
  record EndedSo (wanted : ℕ) (before : Standing L) (frame : Frame) (after : Standing L) (frames : List Frame) : Type 0 where
    first : List Frame
    later : List Frame
    split : frames ≡ first ++ frame ∷ later
    events : List Event
    passed : PassesOverAll wanted first events
    kept : after.kept ≡ before.kept ++ events
    streams : Streams after later
    same : Same before.link after.link

  ends_so : (wanted : ℕ) (before : Standing L) (frame : Frame) (after : Standing L) (frames : List Frame) → Each IsFrame frames →
      Streams before frames → EndsAt words wanted before frame after → EndedSo wanted before frame after frames
  ends_so wanted before frame after frames all s e =
      let h = heard_so wanted before e.at frames all s e.heard in
      let all_later : Each IsFrame h.later = each-right IsFrame h.first h.later (subst (Each IsFrame) h.split all) in
      let one = front_of h.later (whole frame ∷ []) e.at.pending e.behind (waits e.at.link) all_later h.streams
      (Cuts-whole e.at.pending e.behind frame e.begins) in
      let is_one : one.first ≡ frame ∷ [] = one_whole frame one.first one.items_are in
      let all_behind : Each IsFrame one.later = each-right IsFrame one.first one.later (subst (Each IsFrame) one.split all_later) in
      let skip = front_of one.later e.rest.items e.behind after.pending (waits e.at.link) all_behind one.left e.rest.cuts in
      let none : skip.first ≡ [] = no_junk skip.first (subst OnlyJunk skip.items_are e.rest.only) in
      record {
        first = h.first;
        later = skip.later;
        split = h.split ∙ ap (λ (t : List Frame). h.first ++ t) (one.split ∙ ap (λ (t : List Frame). t ++ one.later) is_one ∙
            ap (λ (t : List Frame). frame ∷ t) (skip.split ∙ ap (λ (t : List Frame). t ++ skip.later) none));
        events = h.events;
        passed = h.passed;
        kept = e.kept ∙ h.kept;
        streams = subst (λ (l : L). after.pending ++ waits l ≡ stream skip.later) (sym e.link) skip.left;
        same = subst (λ (l : L). Same before.link l) (sym e.link) h.same;
      }

  -- where nothing more comes, all were passed over
  ends_at_none : (wanted : ℕ) (before at after : Standing L) (frames : List Frame) → Each IsFrame frames → Streams before frames →
      (n : EndsAtNone words wanted before at after) → AtEnd words at.link after.link →
      (events : List Event) × PassesOverAll wanted frames events
  ends_at_none wanted before at after frames all s n e =
      let h = heard_so wanted before at frames all s n.heard in
      let got = g.receive at.link [] after.link e.0 in
      let empty : waits at.link ≡ [] = got.0 ∙ g.at_end at.link after.link e in
      let all_later : Each IsFrame h.later = each-right IsFrame h.first h.later (subst (Each IsFrame) h.split all) in
      let none : h.later ≡ [] = ended h.later at.pending all_later n.partial (ap (λ (t : List ℕ). at.pending ++ t) (sym empty) ∙ h.streams) in (
        h.events,
        subst (λ (t : List Frame). PassesOverAll wanted t h.events)
            (sym (h.split ∙ ap (λ (t : List Frame). h.first ++ t) none ∙ append-nil h.first)) h.passed,
      )

  -- the reply came, behind the events that waited, which are kept
  pub record GotReply (before after : Standing L) (waiting events : List Frame) : Type 0 where
    pub kept_events : List Event
    pub are : AreKept waiting kept_events
    pub kept : after.kept ≡ before.kept ++ kept_events
    pub streams : Streams after events
    pub same : Same before.link after.link

  -- what a request comes to: the reply; or there is no room for the events ahead of it
  abbrev pub RequestCame : (reply : Frame) (waiting events : List Frame) → (at : Standing L) → Result Frame HostError → (after : Standing L) →
      Type 0
  RequestCame reply waiting events at (Ok frame) after = (frame ≡ reply) × GotReply at after waiting events
  RequestCame reply waiting events at (Err error) after = ((event : Event) × (error ≡ EventsFull event)) ×
      (kept_limit < length at.kept + length waiting) × Same at.link after.link

  module _ (number : ℕ) (reply : Frame) (waiting events : List Frame) (is : reply.number ≡ number) (apart : number ≢ event_number)
      (answers : IsAnswer reply.body) (all_events : Each IsEvent waiting) (valid : Each IsFrame (waiting ++ reply ∷ events))
      (few : length (stream (waiting ++ reply ∷ events)) < receive_limit) where
    -- the frame that has the number is the reply
    reply_came : (at after : Standing L) (frame : Frame) → Streams at (waiting ++ reply ∷ events) → EndsAt words number at frame after →
        frame.number ≡ number → (frame ≡ reply) × GotReply at after waiting events
    reply_came at after frame s e same =
        let d = ends_so number at frame after (waiting ++ reply ∷ events) valid s e in
        let r = reply_at number reply frame waiting d.first events d.later d.events all_events is apart same d.passed d.split in (
          r.1,
          record {
            kept_events = d.events;
            are = passed_events number waiting d.events all_events
                (subst (λ (t : List Frame). PassesOverAll number t d.events) r.0 d.passed);
            kept = d.kept;
            streams = subst (Streams after) r.2 d.streams;
            same = d.same;
          },
        )

    -- no other end than that there is no room
    await_fails : (at after : Standing L) (error : HostError) → Streams at (waiting ++ reply ∷ events) → AwaitFails words number at error after →
        ((event : Event) × (error ≡ EventsFull event)) × (kept_limit < length at.kept + length waiting) × Same at.link after.link
    await_fails at after Link s f = absurd (g.fails f.0.link after.link f.2)
    await_fails at after NoReply s f =
        let h = heard_so number at after (waiting ++ reply ∷ events) valid s f.0 in
        absurd (omega (arith, h.within, few, f.2))
    await_fails at after Closed s f =
        let none = ends_at_none number at f.0 after (waiting ++ reply ∷ events) valid s f.1 f.2 in
        absurd (not_all number reply waiting events none.0 is none.1)
    await_fails at after (BadReply read) s f =
        let d = ends_so number at (frame_of read) after (waiting ++ reply ∷ events) valid s f.0 in
        let b = before_reply number reply (frame_of read) waiting d.first events d.later d.events is f.1 d.passed d.split in
        let event = b.1 all_events in
        absurd (f.3 event.told_by event.body)
    await_fails at after (EventsFull event) s f =
        let d = ends_so number at f.0 after (waiting ++ reply ∷ events) valid s f.1 in
        let b = before_reply number reply f.0 waiting d.first events d.later d.events is f.2 d.passed d.split in (
          (event, refl),
          omega (arith, f.4, ap length d.kept, length-append at.kept d.events, passed-length number d.first d.events d.passed, b.0),
          d.same,
        )

    fails_so : (at after : Standing L) (error : HostError) → Streams at (waiting ++ reply ∷ events) →
        RestFails words number at error after → RequestCame reply waiting events at (Err error) after
    fails_so at after Link s f = await_fails at after Link s f
    fails_so at after NoReply s f = await_fails at after NoReply s f
    fails_so at after Closed s f = await_fails at after Closed s f
    fails_so at after (BadReply read) s (inl f) = await_fails at after (BadReply read) s f
    fails_so at after (BadReply read) s (inr f) =
        let r = reply_came at after (frame_of read) s f.0 f.1 in
        let body : IsResponseBody answers.0 read.body.items = subst (λ (x : Frame). IsResponseBody answers.0 x.body) (sym r.0) answers.1 in
        absurd (f.2 answers.0 body)
    fails_so at after (EventsFull event) s f = await_fails at after (EventsFull event) s f

    pub request_so : (at : Standing L) (result : Result Frame HostError) (after : Standing L) → Streams at (waiting ++ reply ∷ events) →
        RequestsAt words number at result after → RequestCame reply waiting events at result after
    request_so at (Ok frame) after s r = reply_came at after frame s r.0 r.1
    request_so at (Err error) after s r = fails_so at after error s r

  -- an event came, which had waited; or none waits
  abbrev pub EventCame : (before : Standing L) → List Frame → Result Event HostError → Standing L → Type 0
  EventCame before [] (Ok event) after = ⊥
  EventCame before (frame ∷ waiting) (Ok event) after = IsEventBody (told event) frame.body × Streams after waiting ×
      (after.kept ≡ before.kept) × Same before.link after.link
  EventCame before [] (Err error) after = (error ≡ Closed) × Same before.link after.link
  EventCame before (frame ∷ waiting) (Err error) after = ⊥

  -- no event is passed over by one who awaits events
  first_event : (frame : Frame) (waiting first later : List Frame) (kept : List Event) → Each IsEvent waiting → waiting ≡ first ++ frame ∷ later →
      PassesOverAll event_number first kept → (waiting ≡ frame ∷ later) × (kept ≡ [])
  first_event frame waiting [] later kept all e p = (e, p)
  first_event frame waiting (f ∷ first) later kept all e p =
      let events : Each IsEvent (f ∷ (first ++ frame ∷ later)) = subst (Each IsEvent) e all in absurd (p.2.0 events.0.number)

  none_passed : (waiting : List Frame) (kept : List Event) → Each IsEvent waiting → PassesOverAll event_number waiting kept → waiting ≡ []
  none_passed [] kept all p = refl
  none_passed (frame ∷ waiting) kept all p = absurd (p.2.0 all.0.number)

  module _ (waiting : List Frame) (all_events : Each IsEvent waiting) (valid : Each IsFrame waiting)
      (few : length (stream waiting) < receive_limit) (before after : Standing L) (s : Streams before waiting) where
    event_came : (event : Event) → EventComes words before (Ok event) after → EventCame before waiting (Ok event) after
    event_came event c =
        let d = ends_so event_number before c.0 after waiting valid s c.1 in
        let r = first_event c.0 waiting d.first d.later d.events all_events d.split d.passed in
        subst (λ (t : List Frame). EventCame before t (Ok event) after) (sym r.0) (
          c.3,
          d.streams,
          d.kept ∙ ap (λ (t : List Event). before.kept ++ t) r.1 ∙ append-nil before.kept,
          d.same,
        )

    event_fails : (error : HostError) → EventFails words before error after → EventCame before waiting (Err error) after
    event_fails Link f = absurd (g.fails f.0.link after.link f.2)
    event_fails NoReply f =
        let h = heard_so event_number before after waiting valid s f.0 in absurd (omega (arith, h.within, few, f.2))
    event_fails Closed f =
        let none = ends_at_none event_number before f.0 after waiting valid s f.1 f.2 in
        let h = heard_so event_number before f.0 waiting valid s f.1.heard in
        let got = g.receive f.0.link [] after.link f.2.0 in
        subst (λ (t : List Frame). EventCame before t (Err Closed) after) (sym (none_passed waiting none.0 all_events none.1))
        (refl, g.onward before.link f.0.link after.link h.same got.1)
    event_fails (BadReply read) f =
        let d = ends_so event_number before (frame_of read) after waiting valid s f.0 in
        let r = first_event (frame_of read) waiting d.first d.later d.events all_events d.split d.passed in
        let events : Each IsEvent (frame_of read ∷ d.later) = subst (Each IsEvent) r.0 all_events in
        absurd (f.2 events.0.told_by events.0.body)
    event_fails (EventsFull event) f = absurd f

    pub event_so : (result : Result Event HostError) → EventComes words before result after → EventCame before waiting result after
    event_so (Ok event) c = event_came event c
    event_so (Err error) c = event_fails error c
