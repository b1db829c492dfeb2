-- A host that follows a script does so behind each request and each wait.
use Rattle.std.proofs.Common.{◌≡◌, ◌≢◌, ℕ, suc, ◌+◌, ◌<◌, ◌≤◌, ◌==◌, cond, Bool, true, false, not, List, [], ◌∷◌, ◌++◌, length, map, drop}
use Rattle.std.proofs.Common.{refl, sym, ◌∙◌, ap, subst, arith, append_assoc, length-append, add-one, ltb-false}
use Rattle.std.specs.Prelude.{Result, Ok, Err, nat_lt}
use Rattle.std.specs.List.{flat_map}
use Rattle.std.proofs.lemmas.List.{append_cancel_left}
use Rattle.std.proofs.lemmas.List.Concat.{flat_map-append}
use Rattle.std.proofs.lemmas.Bool.{true≢false, eqb-true, ltb-true}
use Rattle.std.proofs.Math.Seq.{drop-append_seam}
use Rattle.part_spec.specs.Chip.{Chip}
use Rattle.line_spec.specs.Frames.{Frame, IsFrame, IsBytes, bytes_of}
use Rattle.line_spec.specs.Messages.{Command}
use Rattle.line_spec.specs.Hearing.{event_number}
use Rattle.line_spec.proofs.Bytes.{IsBytes-along, IsBytes-left, IsBytes-right}
use Rattle.line_spec.proofs.FrameBytes.{length-bytes_of}
use Rattle.debug_spec.specs.Debugger.{listens}
use Rattle.debug_spec.specs.Replay.{over, bytes_sent}
use Rattle.debug_spec.proofs.Soundness.{reply}
use Rattle.ice_msg.specs.declared.event.Event.{Event}
use Rattle.host_session.specs.Standing.{Standing, Hosted}
use Rattle.host_session.specs.Words.{Words}
use Rattle.host_session.specs.Awaiting.{kept_limit}
use Rattle.host_session.specs.Calls.{Asks, GivesEvent, IsAnswer, next_number}
use Rattle.host_session.specs.declared.error.HostError.{HostError}
use Rattle.shell_spec.specs.Lines.{Line}
use Rattle.shell_spec.specs.Sent.{number_behind, is_event, events_in, replies_in}
use Rattle.shell_spec.specs.Script.{Script, answer, events_full, goes_on, has_failed, ending_behind, asked_in}
use Rattle.shell_spec.specs.Script.{sends, awaits}
use Rattle.script_laws.specs.Waiting.{Each, stream, IsEvent, AreKept, GivesStream}
use Rattle.script_laws.specs.Following.{Follows, AnswersBy, Tells, Takes}
use Rattle.script_laws.proofs.Streams.{each-append}
use Rattle.script_laws.specs.Answers.{IsAnswered}
use Rattle.script_laws.proofs.Replies.{request_answered}
use Rattle.script_laws.proofs.Hosting.{kept-length, GotReply, RequestCame, RequestsAt, request_so, EventCame, event_so}
use Rattle.script_laws.proofs.Valid.{reply_valid, told_events, told_frames, events_size}

-- the number behind so many commands, and one more
pub number_after : (count : ℕ) → next_number (number_behind count) ≡ number_behind (suc count)
number_after count = by_test (number_behind count == 0xFFFE) refl
  where
    by_test : (b : Bool) → (number_behind count == 0xFFFE) ≡ b → cond b 0 (number_behind count + 1) ≡ number_behind (suc count)
    by_test true e = omega (arith, eqb-true (number_behind count) 0xFFFE e)
    by_test false e =
        let other : number_behind count ≢ 0xFFFE = λ same. true≢false (sym (ap (λ (n : ℕ). n == 0xFFFE) same) ∙ e) in omega (arith, other)

-- events are no replies
events_alone : (frames : List Frame) → Each IsEvent frames → (events_in frames ≡ frames) × (replies_in frames ≡ [])
events_alone [] h = (refl, refl)
events_alone (frame ∷ frames) h = by_test (is_event frame) (eqb-yes frame h.0.number) (events_alone frames h.1)
  where
    eqb-yes : (f : Frame) → f.number ≡ event_number → is_event f ≡ true
    eqb-yes f e = ap (λ (n : ℕ). n == event_number) e

    by_test : (b : Bool) → b ≡ true → (events_in frames ≡ frames) × (replies_in frames ≡ []) →
        (cond b (frame ∷ events_in frames) (events_in frames) ≡ frame ∷ frames) ×
        (cond (not b) (frame ∷ replies_in frames) (replies_in frames) ≡ [])
    by_test true e later = (ap (λ (t : List Frame). frame ∷ t) later.0, later.1)
    by_test false e later = absurd (true≢false (sym e))

-- what is kept, one part behind the other
kept-append : (frames more : List Frame) (events others : List Event) → AreKept frames events → AreKept more others →
    AreKept (frames ++ more) (events ++ others)
kept-append [] more [] others h k = k
kept-append (frame ∷ frames) more (one ∷ events) others h k = (h.0, kept-append frames more events others h.1 k)
kept-append [] more (one ∷ events) others h k = absurd h
kept-append (frame ∷ frames) more [] others h k = absurd h

-- of a reply and events behind it the one is the reply, and the others are the events
sent_so : (number : ℕ) (one : Frame) (events : List Frame) → one.number ≡ number → number < event_number → Each IsEvent events →
    (events_in (one ∷ events) ≡ events) × (replies_in (one ∷ events) ≡ one ∷ [])
sent_so number one events is small all = by_test (is_event one) not_event (events_alone events all)
  where
    not_event : is_event one ≡ true → ⊥
    not_event e = omega (arith, eqb-true one.number event_number e, is, small)

    by_test : (b : Bool) → (b ≡ true → ⊥) → (events_in events ≡ events) × (replies_in events ≡ []) →
        (cond b (one ∷ events_in events) (events_in events) ≡ events) ×
        (cond (not b) (one ∷ replies_in events) (replies_in events) ≡ one ∷ [])
    by_test true none alone = absurd (none refl)
    by_test false none alone = (alone.0, ap (λ (t : List Frame). one ∷ t) alone.1)

not_less : (a b : ℕ) → b ≤ a → nat_lt a b ≡ false
not_less a b h = by_test (nat_lt a b) refl
  where
    by_test : (c : Bool) → nat_lt a b ≡ c → c ≡ false
    by_test true e = absurd (omega (arith, ltb-true a b e, h))
    by_test false e = refl

is_less : (a b : ℕ) → a < b → nat_lt a b ≡ true
is_less a b h = by_test (nat_lt a b) refl
  where
    by_test : (c : Bool) → nat_lt a b ≡ c → c ≡ true
    by_test true e = refl
    by_test false e = absurd (omega (arith, ltb-false a b e, h))

module _ (L : Type 0) (words : Words L) (waits : L → List ℕ) (Same : L → L → Type 0) (g : GivesStream L words waits Same) (part : Chip)
    (stops : List ℕ) (line : Line) (command : Command) (host : Hosted L) (s : Script) (f : Follows waits host s) (at : Standing L)
    (asks : Asks words host.number command host.standing at)
    (ans : AnswersBy waits host.standing.link at.link s.debugger (over true part stops (asked_in s command ∷ []) s.debugger))
    (a : IsAnswered (number_behind (length s.commands)) s.debugger (over true part stops (asked_in s command ∷ []) s.debugger)) where
  abbrev one : Frame
  one = reply (number_behind (length s.commands)) a.response

  small : number_behind (length s.commands) < event_number
  small = omega arith

  -- what is sent is the reply and the events behind it
  out_is : ans.out ≡ stream (one ∷ a.events)
  out_is = append_cancel_left (bytes_sent s.debugger) ans.out (stream (one ∷ a.events))
      (sym ans.sent ∙ ap (λ (t : List Frame). flat_map bytes_of t) a.sent ∙ flat_map-append bytes_of s.debugger.sent (one ∷ a.events))

  one_bytes : IsBytes (bytes_of one)
  one_bytes =
      IsBytes-left (bytes_of one) (stream a.events) (IsBytes-along ans.out (stream (one ∷ a.events)) out_is
      (IsBytes-right (waits host.standing.link) ans.out
      (IsBytes-along (waits at.link) (waits host.standing.link ++ ans.out) ans.waits_then ans.bytes)))

  streams_then : at.pending ++ waits at.link ≡ stream (f.waiting ++ one ∷ a.events)
  streams_then =
      ap (λ (t : List ℕ). t ++ waits at.link) asks.pending ∙
      ap (λ (t : List ℕ). host.standing.pending ++ t) ans.waits_then ∙
      sym (append_assoc host.standing.pending (waits host.standing.link) ans.out) ∙
      ap (λ (t : List ℕ). t ++ ans.out) f.streams ∙
      ap (λ (t : List ℕ). stream f.waiting ++ t) out_is ∙
      sym (flat_map-append bytes_of f.waiting (one ∷ a.events))

  few_bytes : IsFrame one → length (stream (f.waiting ++ one ∷ a.events)) < 1000000
  few_bytes valid = omega (
    arith,
    ap length (flat_map-append bytes_of f.waiting (one ∷ a.events)),
    length-append (stream f.waiting) (stream (one ∷ a.events)),
    length-append (bytes_of one) (stream a.events),
    length-bytes_of one,
    valid.body,
    events_size f.waiting f.events,
    events_size a.events (told_events a.events a.each),
    f.few,
    a.few,
  )

  came : (v : IsFrame one × IsAnswer one.body) (result : Result Frame HostError) (now : Hosted L) →
      RequestsAt words host.number at result now.standing →
      RequestCame L words waits Same g one f.waiting a.events at result now.standing
  came v result now r =
      request_so L words waits Same g host.number one f.waiting a.events (sym f.number) (omega (arith, f.number, small)) v.1 f.events
      (each-append IsFrame f.waiting (one ∷ a.events) f.valid (v.0, told_frames a.events a.each)) (few_bytes v.0)
      at result now.standing streams_then r

  -- the frames that are sent
  frames_are : drop (length s.debugger.sent) (over true part stops (asked_in s command ∷ []) s.debugger).sent ≡ one ∷ a.events
  frames_are = ap (λ (t : List Frame). drop (length s.debugger.sent) t) a.sent ∙ drop-append_seam s.debugger.sent (one ∷ a.events)

  parts : (events_in (one ∷ a.events) ≡ a.events) × (replies_in (one ∷ a.events) ≡ one ∷ [])
  parts = sent_so (number_behind (length s.commands)) one a.events refl small (told_events a.events a.each)

  -- what the definition says, by whether too many events wait
  abbrev sent_script : Script
  sent_script = sends true part stops line command s

  said_is : (full : Bool) → nat_lt 64 (length s.queue) ≡ full →
      sent_script.said ≡ s.said ++ (cond full (events_full ∷ []) (answer line one ∷ []))
  said_is full e =
      ap (λ (b : Bool). s.said ++ cond b (events_full ∷ []) (map (answer line)
      (replies_in (drop (length s.debugger.sent) (over true part stops (asked_in s command ∷ []) s.debugger).sent)))) e ∙
      ap (λ (t : List Frame). s.said ++ cond full (events_full ∷ []) (map (answer line) (replies_in t))) frames_are ∙
      ap (λ (t : List Frame). s.said ++ cond full (events_full ∷ []) (map (answer line) t)) parts.1

  ending_is : (full : Bool) → nat_lt 64 (length s.queue) ≡ full → sent_script.ending ≡ cond full has_failed (ending_behind line)
  ending_is full e = ap (λ (b : Bool). cond b has_failed (ending_behind line)) e

  queue_is : sent_script.queue ≡ s.queue ++ a.events
  queue_is = ap (λ (t : List Frame). s.queue ++ events_in t) frames_are ∙ ap (λ (t : List Frame). s.queue ++ t) parts.0

  queue_length : length s.queue ≡ length f.kept_frames + length f.waiting
  queue_length = ap length f.queue ∙ length-append f.kept_frames f.waiting

  -- the host follows on
  follows_on : (now : Hosted L) →
      GotReply L words waits Same g at now.standing f.waiting a.events → now.number ≡ next_number host.number →
      nat_lt 64 (length s.queue) ≡ false → listens sent_script.debugger.mode ≡ true → ending_behind line ≡ goes_on → Follows waits now sent_script
  follows_on now got number room listening going =
      let kept : now.standing.kept ≡ host.standing.kept ++ got.kept_events =
      got.kept ∙ ap (λ (t : List Event). t ++ got.kept_events) asks.kept in
      record {
        kept_frames = f.kept_frames ++ f.waiting;
        waiting = a.events;
        are = subst (AreKept (f.kept_frames ++ f.waiting)) (sym kept)
            (kept-append f.kept_frames f.waiting host.standing.kept got.kept_events f.are got.are);
        queue = queue_is ∙ ap (λ (t : List Frame). t ++ a.events) f.queue;
        streams = got.streams;
        events = told_events a.events a.each;
        valid = told_frames a.events a.each;
        few = a.few;
        number = number ∙ ap next_number f.number ∙ number_after (length s.commands) ∙
            ap number_behind (sym (length-append s.commands (command ∷ []) ∙ add-one (length s.commands)));
        listening = listening;
        short = a.table f.short;
        going = ending_is false room ∙ going;
      }

  tells : (result : Result Frame HostError) (now : Hosted L) →
      RequestCame L words waits Same g one f.waiting a.events at result now.standing → now.number ≡ next_number host.number →
      length now.standing.kept ≤ kept_limit → Same at.link now.standing.link × Tells waits line result now s sent_script
  tells (Ok frame) now c number fits =
      let got = c.1 in
      let room : nat_lt 64 (length s.queue) ≡ false = not_less 64 (length s.queue) (omega (
        arith,
        fits,
        ap length got.kept,
        length-append at.kept got.kept_events,
        ap length asks.kept,
        kept-length f.waiting got.kept_events got.are,
        kept-length f.kept_frames host.standing.kept f.are,
        queue_length,
      )) in (
        got.same,
        (
          said_is false room ∙ ap (λ (x : Frame). s.said ++ answer line x ∷ []) (sym c.0),
          ending_is false room,
          λ listening going. follows_on now got number room listening going,
        ),
      )
  tells (Err error) now c number fits =
      let full : nat_lt 64 (length s.queue) ≡ true = is_less 64 (length s.queue) (omega (
        arith,
        c.1,
        ap length asks.kept,
        kept-length f.kept_frames host.standing.kept f.are,
        queue_length,
      )) in
      (c.2, (c.0, said_is true full, ending_is true full))

  -- what it came to is what the definition sends
  sends_so : (result : Result Frame HostError) (now : Hosted L) → RequestsAt words host.number at result now.standing →
      now.number ≡ next_number host.number → length now.standing.kept ≤ kept_limit →
      Same at.link now.standing.link × Tells waits line result now s sent_script
  sends_so result now r number fits =
      let v = reply_valid (number_behind (length s.commands)) a.response small (a.short f.short) one_bytes in
      tells result now (came v result now r) number fits

-- a request of a host that follows a script, answered by what the debugger sends
pub request_follows : (L : Type 0) (words : Words L) (waits : L → List ℕ) (Same : L → L → Type 0) → GivesStream L words waits Same →
    (part : Chip) (stops : List ℕ) (line : Line) (command : Command) (host now : Hosted L) (s : Script) (result : Result Frame HostError)
    (at : Standing L) → Follows waits host s → Asks words host.number command host.standing at →
    AnswersBy waits host.standing.link at.link s.debugger (over true part stops (asked_in s command ∷ []) s.debugger) →
    RequestsAt words host.number at result now.standing → now.number ≡ next_number host.number → length now.standing.kept ≤ kept_limit →
    Same at.link now.standing.link × Tells waits line result now s (sends true part stops line command s)
request_follows L words waits Same g part stops line command host now s result at f asks ans r number fits =
    sends_so L words waits Same g part stops line command host s f at asks ans
    (request_answered true part stops (number_behind (length s.commands)) command s.debugger f.listening) result now r number fits

-- a wait of a host that follows a script, for an event that it kept
kept_follows : {L : Type 0} (waits : L → List ℕ) (host now : Hosted L) (s : Script) (one : Event) (kept : List Event)
    (frames waiting : List Frame) → Follows waits host s → AreKept frames (one ∷ kept) → s.queue ≡ frames ++ waiting →
    host.standing.pending ++ waits host.standing.link ≡ stream waiting → Each IsEvent waiting → Each IsFrame waiting → length waiting ≤ 2 →
    now.standing ≡ record host.standing { kept = kept } → now.number ≡ host.number → Takes waits (Ok one) now s (awaits s.queue s)
kept_follows waits host now s one kept [] waiting f are queue streams events valid few is number = absurd are
kept_follows {L} waits host now s one kept (frame ∷ frames) waiting f are queue streams events valid few is number =
    let P : List Frame → Type 0 = λ t. Takes waits (Ok one) now s (awaits t s) in
    let Q : Standing L → Type 0 = λ t. (AreKept frames t.kept) × (t.pending ++ waits t.link ≡ stream waiting) in
    let there = subst Q (sym is) (are.1, streams) in
    subst P (sym queue) (
      (frame, refl, are.0.1),
      record {
        kept_frames = frames;
        waiting = waiting;
        are = there.0;
        queue = refl;
        streams = there.1;
        events = events;
        valid = valid;
        few = few;
        number = number ∙ f.number;
        listening = f.listening;
        short = f.short;
        going = refl;
      },
    )

-- or one that waits in the link, or where there is none
module _ (L : Type 0) (words : Words L) (waits : L → List ℕ) (Same : L → L → Type 0) (g : GivesStream L words waits Same) where
  came_follows : (host now : Hosted L) (s : Script) (result : Result Event HostError) (waiting : List Frame) → Follows waits host s →
      Each IsEvent waiting → Each IsFrame waiting → length waiting ≤ 2 → host.standing.kept ≡ [] → now.number ≡ host.number →
      EventCame L words waits Same g host.standing waiting result now.standing →
      Same host.standing.link now.standing.link × Takes waits result now s (awaits waiting s)
  came_follows host now s (Ok one) [] f events valid few none number c = absurd c
  came_follows host now s (Err error) [] f events valid few none number c = (c.1, (c.0, refl, refl))
  came_follows host now s (Err error) (frame ∷ waiting) f events valid few none number c = absurd c
  came_follows host now s (Ok one) (frame ∷ waiting) f events valid few none number c = (
    c.3,
    (
      (frame, refl, c.0),
      record {
        kept_frames = [];
        waiting = waiting;
        are = subst (AreKept []) (sym (c.2 ∙ none)) tt;
        queue = refl;
        streams = c.1;
        events = events.1;
        valid = valid.1;
        few = omega (arith, few);
        number = number ∙ f.number;
        listening = f.listening;
        short = f.short;
        going = refl;
      },
    ),
  )

  no_frames : (frames : List Frame) → AreKept frames [] → frames ≡ []
  no_frames [] h = refl
  no_frames (frame ∷ frames) h = absurd h

  by_kept : (host now : Hosted L) (s : Script) (result : Result Event HostError) (kept : List Event) → host.standing.kept ≡ kept →
      Follows waits host s → GivesEvent words kept host.standing result now.standing → now.number ≡ host.number →
      Same host.standing.link now.standing.link × Takes waits result now s (awaits s.queue s)
  by_kept host now s result [] is f c number =
      let none : f.kept_frames ≡ [] = no_frames f.kept_frames (subst (AreKept f.kept_frames) is f.are) in
      let queue : s.queue ≡ f.waiting = f.queue ∙ ap (λ (t : List Frame). t ++ f.waiting) none in
      subst (λ (t : List Frame). Same host.standing.link now.standing.link × Takes waits result now s (awaits t s)) (sym queue)
      (came_follows host now s result f.waiting f f.events f.valid f.few is number
      (event_so L words waits Same g f.waiting f.events f.valid (omega (arith, events_size f.waiting f.events, f.few)) host.standing
      now.standing f.streams result c))
  by_kept host now s result (one ∷ kept) is f c number = (
    subst (λ (t : Standing L). Same host.standing.link t.link) (sym c.1) (g.start host.standing.link),
    subst (λ (r : Result Event HostError). Takes waits r now s (awaits s.queue s)) (sym c.0)
        (kept_follows waits host now s one kept f.kept_frames f.waiting f (subst (AreKept f.kept_frames) is f.are) f.queue f.streams f.events
        f.valid f.few c.1 number),
  )

  -- a wait of a host that follows a script
  pub await_follows : (host now : Hosted L) (s : Script) (result : Result Event HostError) → Follows waits host s →
      GivesEvent words host.standing.kept host.standing result now.standing → now.number ≡ host.number →
      Same host.standing.link now.standing.link × Takes waits result now s (awaits s.queue s)
  await_follows host now s result f c number = by_kept host now s result host.standing.kept refl f c number
