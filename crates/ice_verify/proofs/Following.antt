-- A verifier stands behind an event as the session does.
use Rattle.std.proofs.Common.{◌≡◌, ℕ, ◌+◌, ◌%◌, ◌^◌, ◌<◌, ◌⊎◌, inl, inr, Bool, true, false, List, [], ◌∷◌, ◌++◌, length, map, take}
use Rattle.std.proofs.Common.{None, refl, sym, ap, ◌∙◌, subst, arith, append-nil}
use Rattle.std.proofs.lemmas.List.{take_all}
use Rattle.part_spec.specs.declared.part.Part.{Part}
use Rattle.part_spec.specs.Chip.{chip_of}
use Rattle.avr_spec.specs.Kept.{kept}
use Rattle.line_spec.specs.Cut.{Item, whole, junk, Cuts}
use Rattle.ice_recv.specs.Receiving.{Waits, OnlyJunk, HasFrame, Drops, counted, risen}
use Rattle.debug_spec.specs.Debugger.{Mode, stopped, launching, running, programming, leaving, closed, Debugger, listens, dropping}
use Rattle.debug_spec.specs.Running.{launch_if_prepared}
use Rattle.debug_spec.specs.Commands.{item}
use Rattle.debug_spec.specs.Replay.{bytes_sent}
use Rattle.debug_spec.specs.Schedule.{Session, Keeps}
use Rattle.line_spec.proofs.Cuts.{Cuts-append}
use Rattle.record_spec.specs.Fits.{Point}
use Rattle.ice_answer.specs.Feeding.{Feeds, counted_on}
use Rattle.debug_spec.specs.Take.{goes_on, FrameWaits, TakesFrame, TakesNone, IsTake, launched_then}
use Rattle.debug_spec.proofs.Sessions.{EitherBy}
use Rattle.debug_spec.proofs.TakeChunks.{listens-launched, listening_launch}
use Rattle.ice_answer.specs.Kept.{ToolState, kept_tool, prepared_number}
use Rattle.ice_answer.specs.Does.{IsAt}
use Rattle.ice_verify.specs.Well.{IsGood}
use Rattle.ice_verify.specs.Standing.{at_of}
use Rattle.ice_verify.specs.Checking.{Stands, behind_frame, TakesFrameOff, TakesWaiting}
use Rattle.ice_verify.specs.declared.verifier.Verifier.{Verifier}
use Rattle.ice_verify.specs.declared.plain.Plain.{Plain}
use Rattle.ice_verify.proofs.TakesBytes.{behind_by, frame_is_taken, none_is_taken, less_settled, junk_bytes}

pub by_true : (b : Bool) (x y : Type 0) → b ≡ true → x → EitherBy b x y
by_true true x y e h = h
by_true false x y e h = cc

pub by_true_back : (b : Bool) (x y : Type 0) → b ≡ true → EitherBy b x y → x
by_true_back true x y e h = h
by_true_back false x y e h = cc

-- a debugger that listens goes on, and so does one that goes on and prepares no run
pub listens_on : (m : Mode) → listens m ≡ true → goes_on m ≡ true
listens_on stopped h = refl
listens_on (launching number) h = cc
listens_on running h = refl
listens_on programming h = refl
listens_on leaving h = cc
listens_on (closed restored) h = cc

pub calm_goes : (m : Mode) → prepared_number m ≡ None → goes_on m ≡ listens m
calm_goes stopped h = refl
calm_goes (launching number) h = cc
calm_goes running h = refl
calm_goes programming h = refl
calm_goes leaving h = refl
calm_goes (closed restored) h = refl

pub keeps_back : (b : Bool) (x y : List ℕ) → b ≡ true → Keeps b x y → y ≡ x
keeps_back true x y e h = h
keeps_back false x y e h = cc

-- the bytes dropped are counted alike, in the tool modulo 2^64
counts-alike : (tool session before after more : ℕ) → before < 2 ^ 64 → after ≡ counted before more → tool ≡ session % 2 ^ 64 →
    (tool + risen before after) % 2 ^ 64 ≡ (session + more) % 2 ^ 64
counts-alike tool session before after more h k e = omega (arith, h, k, e)

pub counted_less : (before after more : ℕ) → after ≡ counted before more → after < 2 ^ 64
counted_less before after more h = omega (arith, h)

pub tool_dropping : (part : Part) (tool : ToolState) (s : Debugger) (before after more : ℕ) → before < 2 ^ 64 → after ≡ counted before more →
    tool ≡ kept_tool part s →
    record tool { dropped = (tool.dropped + risen before after) % 2 ^ 64 } ≡ kept_tool part (dropping more s)
tool_dropping part tool s before after more h k e =
    ap (λ (t : ToolState). record t { dropped = (tool.dropped + risen before after) % 2 ^ 64 }) e ∙
    ap (λ (n : ℕ). record (kept_tool part s) { dropped = n })
    (counts-alike tool.dropped s.dropped before after more h k (ap (λ (t : ToolState). t.dropped) e))

-- what is counted behind a frame
pub counted_behind : (b : Bool) (part : Part) (tool : ToolState) (u : Debugger) (before after more : ℕ) → before < 2 ^ 64 →
    after ≡ counted before more → tool ≡ kept_tool part u →
    counted_on b before after tool ≡ kept_tool part (elim b [ true ↦ dropping more u | false ↦ u ])
counted_behind true part tool u before after more h k e = tool_dropping part tool u before after more h k e
counted_behind false part tool u before after more h k e = e

-- the rest of a debugger says nothing of the bytes dropped
pub by_behind : (P : Debugger → Type 0) (b : Bool) (more : ℕ) (u : Debugger) → ((n : ℕ) → P u → P (dropping n u)) → P u →
    P (elim b [ true ↦ dropping more u | false ↦ u ])
by_behind P true more u step h = step more h
by_behind P false more u step h = h

-- a verifier stands for a session, but for what is to be told
pub record StandsSo (part : Part) (v : Verifier) (s : Session) : Type 0 where
  pub tool : v.plain.tool ≡ kept_tool part s.state
  pub core : v.plain.core ≡ kept (chip_of part) s.state.machine
  pub comparators : v.plain.comparators ≡ s.state.comparators
  pub held : Keeps (goes_on s.state.mode) v.receiver.held s.held
  pub good : IsGood s.state

abbrev dropped_by : (b : Bool) (more : ℕ) (w : Debugger) → Debugger
dropped_by b more w = elim b [ true ↦ dropping more w | false ↦ w ]

keeps_by : (b : Bool) (bytes : List ℕ) (more : ℕ) (w : Debugger) → Keeps b bytes (behind_by b bytes more w).held
keeps_by true bytes more w = refl
keeps_by false bytes more w = refl

state_by : (b : Bool) (bytes : List ℕ) (more : ℕ) (w : Debugger) →
    dropped_by b more w ≡ (behind_by b bytes more w).state
state_by true bytes more w = refl
state_by false bytes more w = refl

mode_by : (b : Bool) (more : ℕ) (w : Debugger) → (dropped_by b more w).mode ≡ w.mode
mode_by true more w = refl
mode_by false more w = refl

-- behind a frame that was heard, with its launch
module _ (part : Part) (v1 v2 : Verifier) (u : Debugger) (base : List ℕ) (f : TakesFrameOff v1 v2)
    (e : IsAt part base (at_of v1.plain v1.sent.items) u) (good : IsGood u) (calm : prepared_number v2.plain.tool.mode ≡ None) where
  w : Debugger
  w = item false (chip_of part) f.heard u

  n : ℕ
  n = length f.takes.2.items

  unfoldable pub end_session : Session
  end_session = launched_then (behind_by (goes_on (item false (chip_of part) f.heard u).mode) v2.receiver.held (length f.takes.2.items)
      (item false (chip_of part) f.heard u))

  done : IsAt part base (at_of v2.plain v2.sent.items) (behind_frame n w) × IsGood (behind_frame n w)
  unfolding w n
  done = f.does part base u e good

  same : behind_frame n w ≡ end_session.state
  unfolding w n end_session
  same = ap (λ (t : Debugger). launch_if_prepared t) (state_by (goes_on w.mode) v2.receiver.held n w)

  dropped_w : Debugger
  dropped_w = elim (goes_on w.mode) [ true ↦ dropping n w | false ↦ w ]

  goes : goes_on end_session.state.mode ≡ goes_on w.mode
  unfolding dropped_w
  goes =
      let mode_is : v2.plain.tool.mode ≡ end_session.state.mode = ap (λ (k : ToolState). k.mode) done.0.tool ∙ ap (λ (t : Debugger). t.mode) same in
      let calm_there : prepared_number end_session.state.mode ≡ None = ap prepared_number (sym mode_is) ∙ calm in
      calm_goes end_session.state.mode calm_there ∙ ap (λ (t : Debugger). listens t.mode) (sym same) ∙
      listens-launched dropped_w.mode dropped_w ∙ ap goes_on (mode_by (goes_on w.mode) n w)

  pub stands_then : StandsSo part v2 end_session
  unfolding end_session w n
  stands_then =
      let d = subst (λ (t : Debugger). IsAt part base (at_of v2.plain v2.sent.items) t × IsGood t) same done in record {
        tool = d.0.tool;
        core = d.0.core;
        comparators = d.0.comparators;
        held = subst (λ (b : Bool). Keeps b v2.receiver.held end_session.held) (sym goes) (keeps_by (goes_on w.mode) v2.receiver.held n w);
        good = d.1;
      }

  pub sent_then : bytes_sent end_session.state ≡ base ++ v2.sent.items
  sent_then = ap bytes_sent (sym same) ∙ done.0.sent

-- a frame among bytes that begin with junk
pub frame_waits : (x y : List ℕ) (items : List Item) → OnlyJunk items → Cuts x items y → Waits y → FrameWaits x
frame_waits x y items only cuts w =
    let j = junk_bytes x y items only cuts in
    (j.bytes, w.0, w.1, Cuts-append x y w.1 (map junk j.bytes) (whole w.0 ∷ []) j.cuts (w.1, w.2, refl))

-- bytes were fed, and the frame that waits then, if one does, is heard
module _ (part : Part) (v0 v1 v2 : Verifier) (at_ : Point) (bytes : List ℕ) (st : Stands part v0 at_)
    (on : listens v0.plain.tool.mode ≡ true) (feeds : Feeds v0.receiver bytes (length bytes) v1.receiver) (range : v0.receiver.dropped < 2 ^ 64)
    (tool : v1.plain.tool ≡ record v0.plain.tool { dropped = (v0.plain.tool.dropped + risen v0.receiver.dropped v1.receiver.dropped) % 2 ^ 64 })
    (rest : (v1.plain.core ≡ v0.plain.core) × (v1.plain.comparators ≡ v0.plain.comparators)) (none : v1.sent.items ≡ [])
    (calm : prepared_number v2.plain.tool.mode ≡ None) where
  pub listens_there : listens at_.session.state.mode ≡ true
  listens_there = ap (λ (k : ToolState). listens k.mode) (sym st.tool) ∙ on

  held_is : at_.session.held ≡ v0.receiver.held
  held_is = keeps_back (goes_on at_.session.state.mode) v0.receiver.held at_.session.held
      (listens_on at_.session.state.mode listens_there) st.held

  drops : Drops (at_.session.held ++ bytes) v0.receiver.dropped v1.receiver
  drops = subst (λ (x : List ℕ). Drops (x ++ bytes) v0.receiver.dropped v1.receiver) (sym held_is)
      (subst (λ (y : List ℕ). Drops (v0.receiver.held ++ y) v0.receiver.dropped v1.receiver) (take_all (length bytes) bytes (omega arith)) feeds.drops)

  first : (k : ℕ) → k < length bytes → HasFrame (at_.session.held ++ take k bytes) → ⊥
  first k less has = feeds.first k less (subst (λ (x : List ℕ). HasFrame (x ++ take k bytes)) held_is has)

  u : Debugger
  u = dropping (length drops.items) at_.session.state

  here : IsAt part (bytes_sent at_.session.state) (at_of v1.plain v1.sent.items) u
  unfolding u
  here = record {
    tool = tool ∙ tool_dropping part v0.plain.tool at_.session.state v0.receiver.dropped v1.receiver.dropped (length drops.items) range drops.count
        st.tool;
    core = rest.0 ∙ st.core;
    comparators = rest.1 ∙ st.comparators;
    sent = sym (append-nil (bytes_sent at_.session.state)) ∙ ap (λ (t : List ℕ). bytes_sent at_.session.state ++ t) (sym none);
  }

  as_take : (taken : Session) → TakesFrame false (chip_of part) bytes at_.session taken ⊎ TakesNone bytes [] at_.session taken →
      IsTake false (chip_of part) bytes [] at_.session taken
  as_take taken h = by_true (listens at_.session.state.mode)
      (TakesFrame false (chip_of part) bytes at_.session taken ⊎ TakesNone bytes [] at_.session taken)
      (([] ≡ []) × (taken ≡ at_.session)) listens_there h

  pub came : TakesWaiting v1 v2 → (taken : Session) × IsTake false (chip_of part) bytes [] at_.session taken ×
      StandsSo part v2 (launched_then taken) × (bytes_sent (launched_then taken).state ≡ bytes_sent at_.session.state ++ v2.sent.items)
  unfolding u end_session
  came (inr f) =
      let w = item false (chip_of part) f.heard u in
      let taken = behind_by (goes_on w.mode) v2.receiver.held (length f.takes.2.items) w in (
        taken,
        as_take taken (inl (frame_is_taken (chip_of part) bytes at_.session v1.receiver v2.receiver f.frame f.heard drops.items drops.only drops.cuts
            first f.takes f.hears)),
        stands_then part v1 v2 u (bytes_sent at_.session.state) f here st.good calm,
        sent_then part v1 v2 u (bytes_sent at_.session.state) f here st.good calm,
      )
  came (inl n) =
      let taken : Session = record { held = v1.receiver.held; state = u } in
      let partial = less_settled v1.receiver.held drops.settled n.0 in
      let same : launch_if_prepared u ≡ u = listening_launch u.mode u listens_there in
      let is : v2.receiver ≡ v1.receiver = ap (λ (v : Verifier). v.receiver) n.1 in (
        taken,
        as_take taken (inr (none_is_taken bytes at_.session v1.receiver drops.items drops.only drops.cuts partial)),
        subst (λ (t : Debugger). StandsSo part v2 (record { held = v1.receiver.held; state = t })) (sym same)
            (subst (λ (v : Verifier). StandsSo part v taken) (sym n.1) (record {
              tool = here.tool;
              core = here.core;
              comparators = here.comparators;
              held = subst (λ (b : Bool). Keeps b v1.receiver.held v1.receiver.held) (sym (listens_on u.mode listens_there)) refl;
              good = st.good;
            })),
        ap bytes_sent same ∙ sym (append-nil (bytes_sent at_.session.state)) ∙
            ap (λ (t : List ℕ). bytes_sent at_.session.state ++ t) (sym none ∙ ap (λ (v : Verifier). v.sent.items) (sym n.1)),
      )

-- what the receiver dropped behind a frame is counted
pub counted_so : (part : Part) (before : List ℕ) (p q : Plain) (sent : List ℕ) (x : Debugger) (from to more : ℕ) →
    IsAt part before (at_of p sent) x → from < 2 ^ 64 → to ≡ counted from more →
    q ≡ record p { tool = counted_on (goes_on p.tool.mode) from to p.tool } →
    IsAt part before (at_of q sent) (elim (goes_on x.mode) [ true ↦ dropping more x | false ↦ x ])
counted_so part before p q sent x from to more e small rose is =
    let same : goes_on p.tool.mode ≡ goes_on x.mode = ap (λ (k : ToolState). goes_on k.mode) e.tool in record {
      tool = ap (λ (k : Plain). k.tool) is ∙ ap (λ (b : Bool). counted_on b from to p.tool) same ∙
          counted_behind (goes_on x.mode) part p.tool x from to more small rose e.tool;
      core = ap (λ (k : Plain). k.core) is ∙ by_behind (λ (t : Debugger). p.core ≡ kept (chip_of part) t.machine) (goes_on x.mode) more x (λ n h. h) e.core;
      comparators = ap (λ (k : Plain). k.comparators) is ∙
          by_behind (λ (t : Debugger). p.comparators ≡ t.comparators) (goes_on x.mode) more x (λ n h. h) e.comparators;
      sent = by_behind (λ (t : Debugger). bytes_sent t ≡ before ++ sent) (goes_on x.mode) more x (λ n h. h) e.sent;
    }

-- told what was sent
pub sent_as : (part : Part) (before : List ℕ) (p : Plain) (a b : List ℕ) (s : Debugger) → b ≡ a → IsAt part before (at_of p a) s →
    IsAt part before (at_of p b) s
sent_as part before p a b s same e = record {
  tool = e.tool;
  core = e.core;
  comparators = e.comparators;
  sent = e.sent ∙ ap (λ (t : List ℕ). before ++ t) (sym same);
}

pub good_so : (more : ℕ) (x : Debugger) → IsGood x → IsGood (elim (goes_on x.mode) [ true ↦ dropping more x | false ↦ x ])
good_so more x good = by_behind (λ (t : Debugger). IsGood t) (goes_on x.mode) more x (λ n h. h) good
