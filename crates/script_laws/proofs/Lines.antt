-- What the lines of a script do over a link whose partner answers as a debugger does: what the definition of a script says.
use Rattle.std.proofs.Common.{◌≡◌, ℕ, ◌<◌, ◌≤◌, Bool, true, false, List, [], ◌∷◌, ◌++◌, length, refl, sym, ◌∙◌, ap, subst, arith}
use Rattle.std.proofs.Common.{append_assoc, append-nil, length-append, cond, Option, Some, None}
use Rattle.std.specs.Prelude.{Result, Ok, Err}
use Rattle.std.proofs.lemmas.Bool.{true≢false}
use Rattle.part_spec.specs.Chip.{Chip}
use Rattle.line_spec.specs.Frames.{Frame, body_limit}
use Rattle.line_spec.specs.Messages.{Command, IsCommand, command_body, ignored_written}
use Rattle.line_spec.specs.Hearing.{request, asks, event_number}
use Rattle.debug_spec.specs.Debugger.{Debugger, listens}
use Rattle.debug_spec.specs.Commands.{item_launched}
use Rattle.debug_spec.specs.Replay.{over, settled}
use Rattle.debug_spec.specs.Events.{asks_off}
use Rattle.debug_spec.proofs.EventLemmas.{sign_offs_end}
use Rattle.ice_msg.specs.Reading.{told}
use Rattle.ice_msg.specs.declared.event.Event.{Event}
use Rattle.host_session.specs.Standing.{Standing, Hosted}
use Rattle.host_session.specs.Words.{Words, Sent, SendFailed}
use Rattle.host_session.specs.Calls.{Asks as Sends, command_bytes}
use Rattle.host_session.specs.declared.error.HostError.{HostError}
use Rattle.shell_spec.specs.declared.error.LineError.{LineError}
use Rattle.shell_spec.specs.Lines.{Line, quit}
use Rattle.shell_spec.specs.Printed.{error_text}
use Rattle.shell_spec.specs.Reading.{reading}
use Rattle.shell_spec.specs.Sends.{command_of, is_wait}
use Rattle.shell_spec.specs.Sent.{number_behind}
use Rattle.shell_spec.specs.Script.{Script, Said, wrong, answer, event, no_event, events_full, Ending, goes_on, has_quit, has_failed}
use Rattle.shell_spec.specs.Script.{ending_behind, asked_in, sends, awaits, does, does_read, line_in, through, says}
use Rattle.shell_spec.specs.Transcript.{IsText, AreTexts}
use Rattle.debug_shell.specs.Failing.{failure_text}
use Rattle.debug_shell.specs.Transcript.{Asks, Awaits, AwaitsOrIdles, DoesBy, DoesRead, Idles, PrintsEvent, PrintsReply, Runs, RunsAll, after_answer}
use Rattle.debug_shell.specs.declared.script_end.After.{After}
use Rattle.debug_shell.specs.declared.script_end.After.TheVariants.{Goes, Quits, Fails}
use Rattle.script_laws.specs.Waiting.{AreShort, GivesStream}
use Rattle.script_laws.specs.Following.{Follows, AnswersBy, Tells, Takes}
use Rattle.script_laws.proofs.Replies.{listens_settled}
use Rattle.script_laws.proofs.Hosting.{RequestsAt, asked_first, same_request, same_event}
use Rattle.script_laws.proofs.Valid.{events_size}
use Rattle.script_laws.proofs.Follows.{request_follows, await_follows}

-- more is said, and this is its text
pub record SaysText (s t : Script) (text : List ℕ) : Type 0 where
  pub more : List Said
  pub said : t.said ≡ s.said ++ more
  pub texts : AreTexts more text

says_one : (s t : Script) (one : Said) (text : List ℕ) → t.said ≡ s.said ++ one ∷ [] → IsText one text → SaysText s t text
says_one s t one text said is =
    record { more = one ∷ []; said = said; texts = (text, [], is, refl, sym (append-nil text)) }

pub texts-append : (first later : List Said) (a b : List ℕ) → AreTexts first a → AreTexts later b → AreTexts (first ++ later) (a ++ b)
texts-append [] later a b h k = subst (AreTexts later) (sym (ap (λ (t : List ℕ). t ++ b) h)) k
texts-append (one ∷ first) later a b h k = (
  h.0,
  h.1 ++ b,
  h.2,
  texts-append first later h.1 b h.3 k,
  ap (λ (t : List ℕ). t ++ b) h.4 ∙ append_assoc h.0 h.1 b,
)

pub says_onward : (a b c : Script) (text more : List ℕ) → SaysText a b text → SaysText b c more → SaysText a c (text ++ more)
says_onward a b c text more first later = record {
  more = first.more ++ later.more;
  said = later.said ∙ ap (λ (t : List Said). t ++ later.more) first.said ∙ append_assoc a.said first.more later.more;
  texts = texts-append first.more later.more text more first.texts later.texts;
}

-- how the script stands behind a line
abbrev WayEnding : After → Ending → Type 0
WayEnding Goes ending = ending ≡ goes_on
WayEnding Quits ending = ending ≡ has_quit
WayEnding Fails ending = ⊥

way_of : (line : Line) → WayEnding (after_answer line) (ending_behind line)
way_of quit = refl
way_of _ = refl

-- whether a command signs off, if there is one
abbrev off_of : ℕ → Option Command → Bool
off_of number None = false
off_of number (Some command) = asks_off (request number (asks command))

never_off : (line : Line) (number : ℕ) → ending_behind line ≡ goes_on → off_of number (command_of line) ≡ false
never_off quit number e = cc
never_off _ number e = refl

-- a line whose answer lets the script go on does not sign off, and so the debugger still listens
still_listens : (part : Chip) (stops : List ℕ) (line : Line) (command : Command) (number : ℕ) (d : Debugger) →
    command_of line ≡ Some command → ending_behind line ≡ goes_on → listens d.mode ≡ true →
    listens (over true part stops (request number (asks command) ∷ []) d).mode ≡ true
still_listens part stops line command number d is going listening = by_test (listens t.mode) refl
  where
    t : Debugger
    t = item_launched true part (request number (asks command)) d

    by_test : (b : Bool) → listens (item_launched true part (request number (asks command)) d).mode ≡ b →
        listens (settled true part stops (item_launched true part (request number (asks command)) d)).mode ≡ true
    by_test true e = listens_settled true part stops (item_launched true part (request number (asks command)) d).mode
        (item_launched true part (request number (asks command)) d) e
    by_test false e =
        let off : asks_off (request number (asks command)) ≡ true = sign_offs_end true part (request number (asks command)) d listening e in
        absurd (true≢false (sym off ∙ sym (ap (off_of number) is) ∙ never_off line number going))

-- what was sent for a command is answered as a debugger does that listens, where little waits, and the link is good then
pub record Answering {L : Type 0} (waits : L → List ℕ) (Good : L → Type 0) (part : Chip) (stops : List ℕ) (number : ℕ) (command : Command)
    (a b : L) (d e : Debugger) : Type 0 where
  pub answered : number < event_number → listens d.mode ≡ true → AreShort d.parameters → length (waits a) ≤ 32 →
      (e ≡ over true part stops (request number (asks command) ∷ []) d) × AnswersBy waits a b d e × Good b

-- a debugger that listens no more was closed over a link that is good
abbrev pub GoodIfClosed : {L : Type 0} → (L → Type 0) → Hosted L → Script → Type 0
GoodIfClosed Good now t = listens t.debugger.mode ≡ false → Good now.standing.link

-- how a host stands behind a line
abbrev pub WayIs : {L : Type 0} → (L → List ℕ) → (L → Type 0) → After → Hosted L → Script → Type 0
WayIs waits Good Goes now t = Follows waits now t
WayIs waits Good Quits now t = (t.ending ≡ has_quit) × GoodIfClosed Good now t
WayIs waits Good Fails now t = (t.ending ≡ has_failed) × GoodIfClosed Good now t

-- what a line makes of each script that the host follows, whose debugger this is
pub record LineDoes {L : Type 0} (waits : L → List ℕ) (Good : L → Type 0) (part : Chip) (stops : List ℕ) (host now : Hosted L)
    (line text : List ℕ) (way : After) (d e : Debugger) : Type 0 where
  pub does_so : (s : Script) → s.debugger ≡ d → Follows waits host s →
      ((line_in true part stops goes_on line s).debugger ≡ e) × SaysText s (line_in true part stops goes_on line s) text ×
      WayIs waits Good way now (line_in true part stops goes_on line s)

-- and so lines, none of which ends the script
pub record LinesDo {L : Type 0} (waits : L → List ℕ) (part : Chip) (stops : List ℕ) (host now : Hosted L) (lines : List (List ℕ))
    (text : List ℕ) (d e : Debugger) : Type 0 where
  pub do_so : (s : Script) → s.debugger ≡ d → Follows waits host s →
      ((through true part stops lines s).debugger ≡ e) × SaysText s (through true part stops lines s) text ×
      Follows waits now (through true part stops lines s)

-- little waits while a host follows
pub little : {L : Type 0} (waits : L → List ℕ) (host : Hosted L) (s : Script) → Follows waits host s → length (waits host.standing.link) ≤ 32
little waits host s f = omega (
  arith,
  ap length f.streams,
  length-append host.standing.pending (waits host.standing.link),
  events_size f.waiting f.events,
  f.few,
)

-- lines, and then one with which the script may end
pub record LastDoes {L : Type 0} (waits : L → List ℕ) (Good : L → Type 0) (part : Chip) (stops : List ℕ) (host now : Hosted L)
    (lines : List (List ℕ)) (line first text : List ℕ) (way : After) (d e : Debugger) : Type 0 where
  pub does_so : (s : Script) → s.debugger ≡ d → Follows waits host s → let t = through true part stops (lines ++ line ∷ []) s in
      (t.debugger ≡ e) × SaysText s t (first ++ text) × WayIs waits Good way now t × SaysText s (through true part stops lines s) first

pub through-append : (part : Chip) (stops : List ℕ) (lines more : List (List ℕ)) (s : Script) →
    through true part stops (lines ++ more) s ≡ through true part stops more (through true part stops lines s)
through-append part stops [] more s = refl
through-append part stops (line ∷ lines) more s = through-append part stops lines more (line_in true part stops s.ending line s)

module _ (L : Type 0) (words : Words L) (waits : L → List ℕ) (Same : L → L → Type 0) (g : GivesStream L words waits Same) (part : Chip)
    (stops : List ℕ) (Way : L → L → (Debugger → Debugger → Type 0) → Type 0)
    (stay : (a b : L) → Same a b → Way a b (λ d e. e ≡ d))
    (onward : (a b c : L) (R S : Debugger → Debugger → Type 0) → Way a b R → Way b c S →
    Way a c (λ d f. (e : Debugger) × R d e × S e f))
    (weaker : (a b : L) (R S : Debugger → Debugger → Type 0) → ((d e : Debugger) → R d e → S d e) → Way a b R → Way a b S)
    (never : (a : L) (piece : List ℕ) (b : L) → SendFailed words a piece b → ⊥)
    (Good : L → Type 0) (good_stays : (a b : L) → Same a b → Good a → Good b)
    (answers : (number : ℕ) (command : Command) (a b : L) → IsCommand command →
    length (command_body command (ignored_written command)) ≤ body_limit → Sent words a (command_bytes number command) b →
    Way a b (Answering waits Good part stops number command a b)) where
  -- a request
  module _ (line : Line) (command : Command) (host now : Hosted L) (text : List ℕ) (way : After) (is : command_of line ≡ Some command)
      (r : Asks words line command host text now way) where
    request_tells : (result : Result Frame HostError) → PrintsReply line result text way → Good now.standing.link → (s : Script) →
        Follows waits host s → Tells waits line result now s (sends true part stops line command s) →
        SaysText s (sends true part stops line command s) text × WayIs waits Good way now (sends true part stops line command s)
    request_tells (Ok frame) prints good s f t = (
      says_one s (sends true part stops line command s) (answer line frame) text t.0 prints.0,
      by_way (after_answer line) prints.1 (way_of line),
    )
      where
        by_way : (w : After) → way ≡ w → WayEnding w (ending_behind line) → WayIs waits Good way now (sends true part stops line command s)
        by_way Goes e going = subst (λ (x : After). WayIs waits Good x now (sends true part stops line command s)) (sym e)
            (t.2 (still_listens part stops line command (number_behind (length s.commands)) s.debugger is going f.listening) going)
        by_way Quits e ended = subst (λ (x : After). WayIs waits Good x now (sends true part stops line command s)) (sym e)
            (t.1 ∙ ended, λ off. good)
        by_way Fails e none = absurd none
    request_tells (Err error) prints good s f t = (
      says_one s (sends true part stops line command s) events_full text t.1 (prints.0 ∙ ap failure_text t.0.1),
      subst (λ (x : After). WayIs waits Good x now (sends true part stops line command s)) (sym prints.1)
          (t.2, λ off. good),
    )

    -- where it was sent
    abbrev sent_first : (at : Standing L) × Sends words host.number command host.standing at × RequestsAt words host.number at r.result now.standing
    sent_first = asked_first words host.number command host.standing r.result now.standing
        (λ link f. never host.standing.link (command_bytes host.number command) link f) r.requests

    request_does : (d e : Debugger) → Answering waits Good part stops host.number command host.standing.link sent_first.0.link d e → (s : Script) →
        s.debugger ≡ d → Follows waits host s →
        ((sends true part stops line command s).debugger ≡ e) × SaysText s (sends true part stops line command s) text ×
        WayIs waits Good way now (sends true part stops line command s)
    request_does d e a s same f =
        let b = subst (λ (x : Debugger). Answering waits Good part stops host.number command host.standing.link sent_first.0.link x e) (sym same) a in
        let small : host.number < event_number = omega (arith, f.number) in
        let c = b.answered small f.listening f.short (little waits host s f) in
        let is_over : e ≡ over true part stops (asked_in s command ∷ []) s.debugger =
        c.0 ∙ ap (λ (n : ℕ). over true part stops (request n (asks command) ∷ []) s.debugger) f.number in
        let t = request_follows L words waits Same g part stops line command host now s r.result sent_first.0 f sent_first.1
        (subst (λ (x : Debugger). AnswersBy waits host.standing.link sent_first.0.link s.debugger x) is_over c.1) sent_first.2
        r.number r.fits in
        let told_so = request_tells r.result r.prints (good_stays sent_first.0.link now.standing.link t.0 c.2) s f t.1 in
        (sym is_over, told_so.0, told_so.1)

    pub request_goes : Way host.standing.link now.standing.link (λ d e. (s : Script) → s.debugger ≡ d → Follows waits host s →
        ((sends true part stops line command s).debugger ≡ e) × SaysText s (sends true part stops line command s) text ×
        WayIs waits Good way now (sends true part stops line command s))
    request_goes =
        let at = sent_first.0.link in
        let R : Debugger → Debugger → Type 0 = Answering waits Good part stops host.number command host.standing.link at in
        weaker host.standing.link now.standing.link (λ d f. (e : Debugger) × R d e × (f ≡ e))
        (λ d e. (s : Script) → s.debugger ≡ d → Follows waits host s →
        ((sends true part stops line command s).debugger ≡ e) × SaysText s (sends true part stops line command s) text ×
        WayIs waits Good way now (sends true part stops line command s))
        (λ d f h s same follows.
        let done = request_does d h.0 h.1 s same follows in (done.0 ∙ sym h.2, done.1, done.2))
        (onward host.standing.link at now.standing.link R (λ d e. e ≡ d)
        (answers host.number command host.standing.link at r.valid r.size sent_first.1.sent)
        (stay at now.standing.link (same_request L words waits Same g host.number sent_first.0 r.result now.standing sent_first.2)))

  -- a wait
  waits_still : (queue : List Frame) (s : Script) → (awaits queue s).debugger ≡ s.debugger
  waits_still [] s = refl
  waits_still (frame ∷ queue) s = refl

  wait_tells : (host now : Hosted L) (text : List ℕ) (way : After) (result : Result Event HostError) → PrintsEvent result text way →
      (s : Script) → Follows waits host s → Takes waits result now s (awaits s.queue s) → SaysText s (awaits s.queue s) text × WayIs waits Good way now (awaits s.queue s)
  wait_tells host now text way (Ok one) prints s f t = (
    says_one s (awaits s.queue s) (event t.0.0) text t.0.1 (record { told = told one; body = t.0.2; is = prints.0 }),
    subst (λ (x : After). WayIs waits Good x now (awaits s.queue s)) (sym prints.1) t.1,
  )
  wait_tells host now text way (Err error) prints s f t = (
    says_one s (awaits s.queue s) no_event text t.1 (prints.0 ∙ ap failure_text t.0),
    subst (λ (x : After). WayIs waits Good x now (awaits s.queue s)) (sym prints.1)
        (t.2, λ off. absurd (true≢false (sym f.listening ∙ ap (λ (d : Debugger). listens d.mode) (sym (waits_still s.queue s)) ∙ off))),
  )

  wait_goes : (host now : Hosted L) (text : List ℕ) (way : After) → Awaits words host text now way →
      Way host.standing.link now.standing.link (λ d e. (s : Script) → s.debugger ≡ d → Follows waits host s →
      ((awaits s.queue s).debugger ≡ e) × SaysText s (awaits s.queue s) text × WayIs waits Good way now (awaits s.queue s))
  wait_goes host now text way r =
      weaker host.standing.link now.standing.link (λ d e. e ≡ d)
      (λ d e. (s : Script) → s.debugger ≡ d → Follows waits host s →
      ((awaits s.queue s).debugger ≡ e) × SaysText s (awaits s.queue s) text × WayIs waits Good way now (awaits s.queue s))
      (λ d e h s same follows.
      let t = await_follows L words waits Same g host now s r.result follows r.gives r.number in
      let u = wait_tells host now text way r.result r.prints s follows t.1 in
      (waits_still s.queue s ∙ same ∙ sym h, u.0, u.1))
      (stay host.standing.link now.standing.link (same_event L words waits Same g host.standing.kept host.standing r.result now.standing r.gives))

  -- a line that makes no call
  idle_follows : (host now : Hosted L) (s t : Script) → now ≡ host → t.queue ≡ s.queue → t.commands ≡ s.commands →
      t.debugger ≡ s.debugger → t.ending ≡ goes_on → Follows waits host s → Follows waits now t
  idle_follows host now s t same queue commands debugger going f = subst (λ (h : Hosted L). Follows waits h t) (sym same) (record {
    kept_frames = f.kept_frames;
    waiting = f.waiting;
    are = f.are;
    queue = queue ∙ f.queue;
    streams = f.streams;
    events = f.events;
    valid = f.valid;
    few = f.few;
    number = f.number ∙ ap (λ (c : List Command). number_behind (length c)) (sym commands);
    listening = ap (λ (d : Debugger). listens d.mode) debugger ∙ f.listening;
    short = subst (λ (d : Debugger). AreShort d.parameters) (sym debugger) f.short;
    going = going;
  })

  same_link : (host now : Hosted L) → now ≡ host → Same host.standing.link now.standing.link
  same_link host now same = subst (λ (h : Hosted L). Same host.standing.link h.standing.link) (sym same) (g.start host.standing.link)

  idle_goes : (more : List Said) (host now : Hosted L) (text wanted : List ℕ) (way : After) → Idles wanted host text now way →
      AreTexts more wanted →
      Way host.standing.link now.standing.link (λ d e. (s : Script) → s.debugger ≡ d → Follows waits host s →
      ((says more goes_on s).debugger ≡ e) × SaysText s (says more goes_on s) text × WayIs waits Good way now (says more goes_on s))
  idle_goes more host now text wanted way r texts =
      weaker host.standing.link now.standing.link (λ d e. e ≡ d)
      (λ d e. (s : Script) → s.debugger ≡ d → Follows waits host s →
      ((says more goes_on s).debugger ≡ e) × SaysText s (says more goes_on s) text × WayIs waits Good way now (says more goes_on s))
      (λ d e h s same follows. (
        same ∙ sym h,
        record { more = more; said = refl; texts = subst (AreTexts more) (sym r.is) texts },
        subst (λ (x : After). WayIs waits Good x now (says more goes_on s)) (sym r.goes)
            (idle_follows host now s (says more goes_on s) r.same refl refl refl refl follows),
      ))
      (stay host.standing.link now.standing.link (same_link host now r.same))

  -- one that does nothing
  nothing_goes : (host now : Hosted L) (text : List ℕ) (way : After) → Idles [] host text now way →
      Way host.standing.link now.standing.link (λ d e. (s : Script) → s.debugger ≡ d → Follows waits host s →
      (s.debugger ≡ e) × SaysText s s text × WayIs waits Good way now s)
  nothing_goes host now text way r =
      weaker host.standing.link now.standing.link (λ d e. e ≡ d)
      (λ d e. (s : Script) → s.debugger ≡ d → Follows waits host s → (s.debugger ≡ e) × SaysText s s text × WayIs waits Good way now s)
      (λ d e h s same follows. (
        same ∙ sym h,
        record { more = []; said = sym (append-nil s.said); texts = r.is },
        subst (λ (x : After). WayIs waits Good x now s) (sym r.goes) (idle_follows host now s s r.same refl refl refl follows.going follows),
      ))
      (stay host.standing.link now.standing.link (same_link host now r.same))

  -- what a line makes of a script, by what it comes to
  abbrev Comes : (Script → Script) → Hosted L → Hosted L → List ℕ → After → Debugger → Debugger → Type 0
  Comes to host now text way d e = (s : Script) → s.debugger ≡ d → Follows waits host s →
      ((to s).debugger ≡ e) × SaysText s (to s) text × WayIs waits Good way now (to s)

  unasked_goes : (host now : Hosted L) (text : List ℕ) (way : After) (b : Bool) → AwaitsOrIdles words b host text now way →
      Way host.standing.link now.standing.link (Comes (λ s. cond b (awaits s.queue s) s) host now text way)
  unasked_goes host now text way true r = wait_goes host now text way r
  unasked_goes host now text way false r = nothing_goes host now text way r

  command_goes : (host now : Hosted L) (text : List ℕ) (way : After) (line : Line) (o : Option Command) → command_of line ≡ o →
      DoesBy words line o host text now way →
      Way host.standing.link now.standing.link (Comes (λ s. does true part stops line o s) host now text way)
  command_goes host now text way line None is r = unasked_goes host now text way (is_wait line) r
  command_goes host now text way line (Some command) is r = request_goes line command host now text way is r

  read_goes : (host now : Hosted L) (text : List ℕ) (way : After) (read : Result Line LineError) → DoesRead words read host text now way →
      Way host.standing.link now.standing.link (Comes (λ s. does_read true part stops read s) host now text way)
  read_goes host now text way (Ok line) r = command_goes host now text way line (command_of line) refl r
  read_goes host now text way (Err error) r =
      idle_goes (wrong error ∷ []) host now text (error_text error) way r
      (error_text error, [], refl, refl, sym (append-nil (error_text error)))

  -- a line does what the definition says of it
  pub line_goes : (host now : Hosted L) (line text : List ℕ) (way : After) → Runs words line host text now way →
      Way host.standing.link now.standing.link (LineDoes waits Good part stops host now line text way)
  line_goes host now line text way r =
      weaker host.standing.link now.standing.link (Comes (λ s. does_read true part stops (reading line) s) host now text way)
      (LineDoes waits Good part stops host now line text way) (λ d e h. record { does_so = h })
      (read_goes host now text way (reading line) r)

  -- and so do lines, one by one
  pub lines_go : (lines : List (List ℕ)) (host now : Hosted L) (text : List ℕ) → RunsAll words lines host text now →
      Way host.standing.link now.standing.link (LinesDo waits part stops host now lines text)
  lines_go [] host now text r =
      weaker host.standing.link now.standing.link (λ d e. e ≡ d) (LinesDo waits part stops host now [] text)
      (λ d e h. record {
        do_so = λ s same follows. (
          same ∙ sym h,
          record { more = []; said = sym (append-nil s.said); texts = r.0 },
          idle_follows host now s s r.1 refl refl refl follows.going follows,
        );
      })
      (stay host.standing.link now.standing.link (same_link host now r.1))
  lines_go (line ∷ lines) host now text r =
      weaker host.standing.link now.standing.link
      (λ d f. (e : Debugger) × LineDoes waits Good part stops host r.0 line r.1 Goes d e × LinesDo waits part stops r.0 now lines r.2 e f)
      (LinesDo waits part stops host now (line ∷ lines) text)
      (λ d f h. record {
        do_so = λ s same follows.
            let first = h.1.does_so s same follows in
            let later = h.2.do_so (line_in true part stops goes_on line s) first.0 first.2 in
            let says = says_onward s (line_in true part stops goes_on line s)
            (through true part stops lines (line_in true part stops goes_on line s)) r.1 r.2 first.1 later.1 in
            let P : Ending → Type 0 = λ ending. let t = through true part stops lines (line_in true part stops ending line s) in
            (t.debugger ≡ f) × SaysText s t text × Follows waits now t in
            subst P (sym follows.going) (
              later.0,
              subst (λ (t : List ℕ). SaysText s (through true part stops lines (line_in true part stops goes_on line s)) t) (sym r.5) says,
              later.2,
            );
      })
      (onward host.standing.link r.0.standing.link now.standing.link (LineDoes waits Good part stops host r.0 line r.1 Goes)
      (LinesDo waits part stops r.0 now lines r.2) (line_goes host r.0 line r.1 Goes r.3) (lines_go lines r.0 now r.2 r.4))

  -- and one behind them, with which the script may end
  pub last_goes : (lines : List (List ℕ)) (line : List ℕ) (host middle now : Hosted L) (first text : List ℕ) (way : After) →
      RunsAll words lines host first middle → Runs words line middle text now way →
      Way host.standing.link now.standing.link (LastDoes waits Good part stops host now lines line first text way)
  last_goes lines line host middle now first text way all r =
      weaker host.standing.link now.standing.link
      (λ d f. (e : Debugger) × LinesDo waits part stops host middle lines first d e × LineDoes waits Good part stops middle now line text way e f)
      (LastDoes waits Good part stops host now lines line first text way)
      (λ d f h. record {
        does_so = λ s same follows.
            let t = through true part stops lines s in
            let before = h.1.do_so s same follows in
            let last = h.2.does_so t before.0 before.2 in
            let P : Script → Type 0 = λ u. (u.debugger ≡ f) × SaysText s u (first ++ text) × WayIs waits Good way now u × SaysText s t first in
            let Q : Ending → Type 0 = λ ending. P (line_in true part stops ending line t) in
            subst P (sym (through-append part stops lines (line ∷ []) s)) (subst Q (sym before.2.going) (
              last.0,
              says_onward s t (line_in true part stops goes_on line t) first text before.1 last.1,
              last.2,
              before.1,
            ));
      })
      (onward host.standing.link middle.standing.link now.standing.link (LinesDo waits part stops host middle lines first)
      (LineDoes waits Good part stops middle now line text way) (lines_go lines host middle first all) (line_goes middle now line text way r))
