-- What a receiver is fed and hands out, and what is heard of it, is one take of the book.
use Rattle.std.proofs.Common.{◌≡◌, ℕ, zero, suc, ◌+◌, ◌%◌, ◌^◌, ◌<◌, ◌≤◌, inl, inr, Bool, true, false, List, [], ◌∷◌, ◌++◌, length, map, take}
use Rattle.std.proofs.Common.{drop, Option, Some, None, refl, sym, ap, ◌∙◌, subst, arith, append-nil, length-append}
use Rattle.std.proofs.lemmas.List.{drop_all, take-take, length-take-le}
use Rattle.std.proofs.lemmas.Bool.{cases_lt}
use Rattle.part_spec.specs.declared.part.Part.{Part}
use Rattle.part_spec.specs.Chip.{Chip, chip_of}
use Rattle.avr_spec.specs.Kept.{kept}
use Rattle.line_spec.specs.Frames.{Frame, Begins, IsJunk, IsPartial}
use Rattle.line_spec.specs.Cut.{Item, whole, junk, Cuts}
use Rattle.line_spec.specs.Hearing.{Heard, Hears}
use Rattle.line_spec.proofs.Cuts.{no_junk_whole, no_junk_partial, no_partial_whole, Begins-shorter, Cuts-append, Cuts-shorter}
use Rattle.ice_recv.specs.Received.{Received}
use Rattle.ice_recv.specs.Receiving.{Waits, IsSettled, OnlyJunk, HasFrame, Drops, counted, risen}
use Rattle.ice_recv.specs.Handing.{Takes}
use Rattle.debug_spec.specs.Device.{Outcome, Asked, Device}
use Rattle.debug_spec.specs.PageLaws.{AreAnswered}
use Rattle.debug_spec.specs.Moved.{Flash}
use Rattle.debug_spec.specs.Debugger.{Mode, stopped, launching, running, programming, leaving, closed, Debugger, listens, is_out, dropping}
use Rattle.debug_spec.specs.Commands.{item}
use Rattle.debug_spec.specs.Replay.{bytes_sent}
use Rattle.debug_spec.specs.SessionLaws.{IsSound}
use Rattle.debug_spec.specs.Schedule.{Session, Keeps}
use Rattle.debug_spec.specs.Take.{goes_on, FrameWaits, Leaves, TakesFrame, TakesNone}
use Rattle.debug_spec.proofs.Moving.{events_move}
use Rattle.debug_spec.proofs.Sessions.{EitherBy}
use Rattle.debug_spec.proofs.Soundness.{keeps-dropped}
use Rattle.run_control.specs.declared.job.Job.{Job}
use Rattle.ice_answer.specs.Kept.{ToolState, kept_tool}
use Rattle.ice_emul.specs.Standing.{IsJob, IsHeld, Held, held, StandsFor}
use Rattle.ice_emul.specs.Taking.{heard_to_stop, NextTells, DoesCall, StopTells, HearsFrame, IsIdle, TakesBy, TakesBytes, TakesOne, UsesUp}
use Rattle.ice_answer.specs.Feeding.{Feeds, counted_on}
use Rattle.ice_emul.specs.Feeding.{IsOff, TakesFrameOff, TakesOff, TakesWaiting}
use Rattle.ice_emul.specs.declared.emulator.Emulator.{Emulator}
use Rattle.ice_emul.specs.declared.emulator.Next.{Next}
use Rattle.ice_emul.specs.declared.emulator.Next.TheVariants.{Idle, Answered, Launch, RaiseStop, Closed}

-- the bytes of junk items
record JunkBytes (x y : List ℕ) (items : List Item) : Type 0 where
  bytes : List ℕ
  many : length bytes ≡ length items
  cuts : Cuts x (map junk bytes) y

junk_bytes : (x y : List ℕ) (items : List Item) → OnlyJunk items → Cuts x items y → JunkBytes x y items
junk_bytes x y [] only c = record { bytes = []; many = refl; cuts = c }
junk_bytes x y (whole frame ∷ items) only c = absurd only
junk_bytes x y (junk byte ∷ items) only c =
    let later = junk_bytes c.0 y items only c.3 in
    record { bytes = byte ∷ later.bytes; many = ap suc later.many; cuts = (c.0, c.1, c.2, later.cuts) }

-- and back
only_junk : (bytes : List ℕ) → OnlyJunk (map junk bytes)
only_junk [] = tt
only_junk (byte ∷ bytes) = only_junk bytes

waits_back : (x y : List ℕ) (a : List ℕ) (frame : Frame) → Cuts x (map junk a ++ whole frame ∷ []) y →
    (z : List ℕ) × Cuts x (map junk a) z × Begins frame z y
waits_back x y [] frame c = (x, refl, subst (λ (t : List ℕ). Begins frame x t) c.2 c.1)
waits_back x y (byte ∷ a) frame c = let r = waits_back c.0 y a frame c.3 in (r.0, (c.0, c.1, c.2, r.1), r.2)

has_frame : (x : List ℕ) → FrameWaits x → HasFrame x
has_frame x w =
    let r = waits_back x w.2 w.0 w.1 w.3 in
    record { items = map junk w.0; behind = r.0; cuts = r.1; only = only_junk w.0; waits = (w.1, w.2, r.2) }

settled_no_junk : (x : List ℕ) → IsSettled x → IsJunk x → ⊥
settled_no_junk x (inl w) j = no_junk_whole x w.1 w.0 j w.2
settled_no_junk x (inr p) j = no_junk_partial x j p

less_settled : (x : List ℕ) → IsSettled x → (Waits x → ⊥) → IsPartial x
less_settled x (inl w) none = absurd (none w)
less_settled x (inr p) none = p

-- a frame that is taken off waited, and leaves fewer bytes
pub taken_off : (before after : Received) (frame : Frame) → Takes before frame after → IsOff before.held after.held
taken_off before after frame t = (
  (frame, t.0, t.1),
  omega (arith, Begins-shorter before.held t.0 frame t.1, Cuts-shorter t.0 after.held t.2.items t.2.cuts),
)

pub off_by : {F : Type 0} → (next : Next F) (before after : Received) → (IsIdle next → ⊥) → IsOff before.held after.held →
    TakesOff next before after
off_by Idle before after some off = absurd (some tt)
off_by Answered before after some off = off
off_by (Launch own) before after some off = off
off_by RaiseStop before after some off = off
off_by (Closed restored) before after some off = off

-- where less than a frame is held and nothing is fed, none waits
none_fed : (held now : List ℕ) (items : List Item) → IsPartial held → OnlyJunk items → Cuts held items now → Waits now → ⊥
none_fed held now [] partial only cuts waits =
    no_partial_whole held waits.1 waits.0 partial (subst (λ (x : List ℕ). Begins waits.0 x waits.1) (sym cuts) waits.2)
none_fed held now (whole frame ∷ items) partial only cuts waits = only
none_fed held now (junk byte ∷ items) partial only cuts waits = no_junk_partial held cuts.2 partial

-- the session behind what was heard: the receiver's bytes stay held while it goes on
abbrev pub behind_by : Bool → (held : List ℕ) → (count : ℕ) → Debugger → Session
behind_by true held count s = record { held = held; state = dropping count s }
behind_by false held count s = record { held = []; state = s }

-- how many of the bytes a call has used
module _ {F : Type 0} (before middle : Received) (bytes : List ℕ) (used : ℕ) (after : Emulator F) (feeds : Feeds before bytes used middle) where
  fed_most : length middle.held ≤ length before.held + used
  fed_most = omega (
    arith,
    Cuts-shorter (before.held ++ take used bytes) middle.held feeds.drops.items feeds.drops.cuts,
    length-append before.held (take used bytes),
    length-take-le used bytes feeds.most,
  )

  some_used : (n : ℕ) → Cuts (before.held ++ take n bytes) feeds.drops.items middle.held → IsPartial before.held → Waits middle.held → 0 < n
  some_used zero cuts partial waits = absurd (none_fed before.held middle.held feeds.drops.items partial feeds.drops.only
      (subst (λ (x : List ℕ). Cuts x feeds.drops.items middle.held) (append-nil before.held) cuts) waits)
  some_used (suc n) cuts partial waits = omega arith

  takes_one : IsOff middle.held after.receiver.held → TakesOne used before.held after.receiver.held
  takes_one off = (omega (arith, off.1, fed_most), λ partial. some_used used feeds.drops.cuts partial off.0)

  -- bytes fed, and a frame taken off
  pub used_up : (next : Next F) → TakesOff next middle after.receiver → UsesUp next (length bytes) used before after
  used_up Idle off = (
    elim (cases_lt used (length bytes)) [
      | inl less ↦ absurd (off.0 (feeds.all less))
      | inr most ↦ omega (arith, most, feeds.most)
    ],
    λ on. subst (λ (r : Received). IsPartial r.held) (sym off.1) (less_settled middle.held feeds.drops.settled off.0),
    subst (λ (r : Received). length r.held ≤ length before.held + used) (sym off.1) fed_most,
  )
  used_up Answered off = takes_one off
  used_up (Launch own) off = takes_one off
  used_up RaiseStop off = takes_one off
  used_up (Closed restored) off = takes_one off

module _ (part : Chip) (used : List ℕ) (before : Session) (fed after : Received) (frame : Frame) (heard : Heard) (count : ℕ)
    (d : Drops (before.held ++ used) count fed) (first : (k : ℕ) → k < length used → HasFrame (before.held ++ take k used) → ⊥)
    (t : Takes fed frame after) (hears : Hears (whole frame) heard) where
  ahead_of : JunkBytes (before.held ++ used) fed.held d.items
  ahead_of = junk_bytes (before.held ++ used) fed.held d.items d.only d.cuts

  behind_it : JunkBytes t.0 after.held t.2.items
  behind_it = junk_bytes t.0 after.held t.2.items t.2.only t.2.cuts

  leaves_by : (b : Bool) (s : Debugger) → Leaves b t.0 s (behind_by b after.held (length t.2.items) s)
  leaves_by true s =
      (behind_it.bytes, behind_it.cuts, settled_no_junk after.held t.2.settled, ap (λ (n : ℕ). dropping n s) (sym behind_it.many))
  leaves_by false s = refl

  -- it is a take, in which this is heard
  pub frame_is_taken : let s = item true part heard (dropping (length d.items) before.state) in
      (f : TakesFrame true part used before (behind_by (goes_on s.mode) after.held (length t.2.items) s)) × (f.heard ≡ heard)
  frame_is_taken =
      let s = item true part heard (dropping (length d.items) before.state) in
      let end = behind_by (goes_on s.mode) after.held (length t.2.items) s in (
        record {
          ahead = ahead_of.bytes;
          frame = frame;
          behind = t.0;
          heard = heard;
          cuts = Cuts-append (before.held ++ used) fed.held t.0 (map junk ahead_of.bytes) (whole frame ∷ []) ahead_of.cuts (t.0, t.1, refl);
          no_sooner = λ k below w. first k below (has_frame (before.held ++ take k used) w);
          hears = hears;
          leaves = subst (λ (n : ℕ). let s = item true part heard (dropping n before.state) in Leaves (goes_on s.mode) t.0 s end)
              (sym ahead_of.many) (leaves_by (goes_on s.mode) s);
        },
        refl,
      )

none_is_taken : (used left : List ℕ) (before : Session) (fed : Received) (count : ℕ) → left ≡ [] →
    (d : Drops (before.held ++ used) count fed) →
    IsPartial fed.held → TakesNone used left before (record { held = fed.held; state = dropping (length d.items) before.state })
none_is_taken used left before fed count all d partial =
    let ahead = junk_bytes (before.held ++ used) fed.held d.items d.only d.cuts in
    record {
      all = all;
      ahead = ahead.bytes;
      cuts = ahead.cuts;
      partial = partial;
      state = ap (λ (n : ℕ). dropping n before.state) (sym ahead.many);
    }

-- the bytes dropped are counted alike, in the tool modulo 2^64
counts-alike : (tool session before after more : ℕ) → before < 2 ^ 64 → after ≡ counted before more → tool ≡ session % 2 ^ 64 →
    (tool + risen before after) % 2 ^ 64 ≡ (session + more) % 2 ^ 64
counts-alike tool session before after more h k e = omega (arith, h, k, e)

counted-less : (before after more : ℕ) → after ≡ counted before more → after < 2 ^ 64
counted-less before after more h = omega (arith, h)

-- a tool with another count
abbrev pub with_count : ℕ → ToolState → ToolState
with_count count tool = record tool { dropped = count }

tool-dropping : (part : Part) (tool : ToolState) (s : Debugger) (before after more : ℕ) → before < 2 ^ 64 → after ≡ counted before more →
    tool ≡ kept_tool part s →
    with_count ((tool.dropped + risen before after) % 2 ^ 64) tool ≡ kept_tool part (dropping more s)
tool-dropping part tool s before after more h k e =
    ap (λ (t : ToolState). with_count ((tool.dropped + risen before after) % 2 ^ 64) t) e ∙
    ap (λ (n : ℕ). with_count n (kept_tool part s))
    (counts-alike tool.dropped s.dropped before after more h k (ap (λ (t : ToolState). t.dropped) e))

-- a debugger that listens goes on
listens_on : (m : Mode) → listens m ≡ true → goes_on m ≡ true
listens_on stopped h = refl
listens_on (launching number) h = cc
listens_on running h = refl
listens_on programming h = refl
listens_on leaving h = cc
listens_on (closed restored) h = cc

keeps-back : (b : Bool) (x y : List ℕ) → b ≡ true → Keeps b x y → y ≡ x
keeps-back true x y e h = h
keeps-back false x y e h = cc

-- what is kept of the bytes dropped behind a frame
kept_by : (b : Bool) (part : Part) (tool : ToolState) (u : Debugger) (before after more : ℕ) (bytes : List ℕ) → before < 2 ^ 64 →
    after ≡ counted before more → tool ≡ kept_tool part u →
    counted_on b before after tool ≡ kept_tool part (behind_by b bytes more u).state
kept_by true part tool u before after more bytes h k e = tool-dropping part tool u before after more h k e
kept_by false part tool u before after more bytes h k e = e

-- the rest of a session says nothing of the bytes dropped
module _ (P : Debugger → Type 0) where
  by_behind : (b : Bool) (bytes : List ℕ) (more : ℕ) (u : Debugger) → ((n : ℕ) → P u → P (dropping n u)) → P u →
      P (behind_by b bytes more u).state
  by_behind true bytes more u step h = step more h
  by_behind false bytes more u step h = h

keeps_by : (b : Bool) (bytes : List ℕ) (more : ℕ) (u : Debugger) → b ≡ goes_on u.mode →
    Keeps (goes_on (behind_by b bytes more u).state.mode) bytes (behind_by b bytes more u).held
keeps_by true bytes more u e = subst (λ (b : Bool). Keeps b bytes bytes) e refl
keeps_by false bytes more u e = subst (λ (b : Bool). Keeps b bytes []) e refl

sound-dropping : (part : Chip) (n : ℕ) (s : Debugger) → IsSound part s → IsSound part (dropping n s)
sound-dropping part n s h = (keeps-dropped part s n).0.sound h

sound-item : (part : Chip) (heard : Heard) (s : Debugger) → IsSound part s → IsSound part (item true part heard s)
sound-item part heard s h = (events_move.item true part heard s).sound h

-- the tool with another count is kept as before
module _ {F : Type 0} (part_of : F → Part) where
  job-counted : (target : Option (Job F)) (tool : ToolState) (count : ℕ) (job : Job F) → IsJob part_of target tool job →
      IsJob part_of target (with_count count tool) job
  job-counted (Some own) tool count job h = h
  job-counted None tool count job h = record { flash = h.flash; core = h.core; fresh = h.fresh; replant = h.replant }

  job-counted_on : (b : Bool) (target : Option (Job F)) (tool : ToolState) (before now : ℕ) (job : Job F) → IsJob part_of target tool job →
      IsJob part_of target (counted_on b before now tool) job
  job-counted_on true target tool before now job h = job-counted target tool ((tool.dropped + risen before now) % 2 ^ 64) job h
  job-counted_on false target tool before now job h = h

-- the emulator behind a frame that was heard
abbrev pub behind_frame : {F : Type 0} → Bool → (dropped : ℕ) → Received → Emulator F → Emulator F
behind_frame b dropped received e = record e { receiver = received; tool = counted_on b dropped received.dropped e.tool }

tells_by : {F : Type 0} → (b : Bool) (next : Next F) (dropped : ℕ) (received : Received) (before first e : Emulator F) (job : Job F) →
    (IsIdle next → ⊥) → NextTells next first e job → NextTells next before (behind_frame b dropped received e) job
tells_by b Idle dropped received before first e job some h = absurd (some tt)
tells_by true Answered dropped received before first e job some h = h
tells_by false Answered dropped received before first e job some h = h
tells_by true (Launch own) dropped received before first e job some h = h
tells_by false (Launch own) dropped received before first e job some h = h
tells_by true RaiseStop dropped received before first e job some h = h
tells_by false RaiseStop dropped received before first e job some h = h
tells_by true (Closed restored) dropped received before first e job some h = h
tells_by false (Closed restored) dropped received before first e job some h = h

part_by : (b : Bool) (before now : ℕ) (tool : ToolState) → (counted_on b before now tool).plan.part ≡ tool.plan.part
part_by true before now tool = refl
part_by false before now tool = refl

-- what is said of what was heard
goes_by : {F : Type 0} → (next : Next F) (m : Mode) (part : Chip) (used left : List ℕ) (s t : Session) (heard : Heard) → (IsIdle next → ⊥) →
    m ≡ s.state.mode → listens m ≡ true → StopTells next m heard → (f : TakesFrame true part used s t) × (f.heard ≡ heard) →
    TakesBy next part used left s t
goes_by Idle m part used left s t heard some e on stops f = absurd (some tt)
goes_by Answered m part used left s t heard some e on stops f =
    let says = subst (λ (h : Heard). is_out m ≡ true → heard_to_stop h ≡ false) (sym f.1) stops in
    (subst (λ (k : Mode). listens k ≡ true) e on, (f.0, subst (λ (k : Mode). is_out k ≡ true → heard_to_stop f.0.heard ≡ false) e says))
goes_by (Launch own) m part used left s t heard some e on stops f = (subst (λ (k : Mode). listens k ≡ true) e on, f.0)
goes_by RaiseStop m part used left s t heard some e on stops f =
    (subst (λ (k : Mode). listens k ≡ true) e on, (f.0, (subst (λ (k : Mode). is_out k ≡ true) e stops.0, ap heard_to_stop f.1 ∙ stops.1)))
goes_by (Closed restored) m part used left s t heard some e on stops f = (subst (λ (k : Mode). listens k ≡ true) e on, f.0)

-- a session is stood for, told of the part
pub stands_as : {F : Type 0} → (flash : Flash F) (h : Held F) (s : Session) (part : Part) → h.tool ≡ kept_tool part s.state →
    h.job.core ≡ kept (chip_of part) s.state.machine → h.job.comparators ≡ s.state.comparators →
    flash.words h.job.flash ≡ s.state.device.words →
    Keeps (goes_on s.state.mode) h.received.held s.held → IsSound (chip_of part) s.state → StandsFor flash h s
stands_as flash h s part tool core comparators words keeps sound =
    let same : part ≡ h.tool.plan.part = sym (ap (λ (t : ToolState). t.plan.part) tool) in
    record {
      tool = subst (λ (p : Part). h.tool ≡ kept_tool p s.state) same tool;
      core = subst (λ (p : Part). h.job.core ≡ kept (chip_of p) s.state.machine) same core;
      comparators = comparators;
      words = words;
      held = keeps;
      sound = subst (λ (p : Part). IsSound (chip_of p) s.state) same sound;
    }

told_true : (b : Bool) (x y : Type 0) → b ≡ true → x → EitherBy b x y
told_true true x y e h = h
told_true false x y e h = cc

told_false : (b : Bool) (x y : Type 0) → b ≡ false → y → EitherBy b x y
told_false true x y e h = cc
told_false false x y e h = h

-- the emulator whose receiver was fed
abbrev pub fed_to : {F : Type 0} → Emulator F → Received → Emulator F
fed_to e middle = record e {
  receiver = middle;
  tool = with_count ((e.tool.dropped + risen e.receiver.dropped middle.dropped) % 2 ^ 64) e.tool;
}

module _ {F : Type 0} (flash : Flash F) (part_of : F → Part) (before : Emulator F) (job : Job F) (bytes : List ℕ) where
  abbrev Leads : Next F → (used : ℕ) → (out : List ℕ) → List Asked → Held F → Type 0
  Leads next used out asks after = (s : Session) (left : List Outcome) → StandsFor flash (held before job) s →
      AreAnswered s.state.device.outcomes asks left →
      (t : Session) × (TakesBy next (chip_of before.tool.plan.part) (take used bytes) (drop used bytes) s t ×
      (t.state.launches ≡ s.state.launches) × (t.state.device.asked ≡ s.state.device.asked ++ asks)) ×
      StandsFor flash after t × (t.state.device.outcomes ≡ left) × (bytes_sent t.state ≡ bytes_sent s.state ++ out)

  abbrev Call : Next F → (used : ℕ) → (out : List ℕ) → Emulator F → Type 0
  Call next used out after = DoesCall flash part_of (TakesBy next (chip_of before.tool.plan.part) (take used bytes) (drop used bytes))
      before job out next after

  -- bytes that are ignored
  ignored : IsHeld part_of before job → listens before.tool.mode ≡ false → Call Idle (length bytes) [] before
  ignored is off = record {
    now = job;
    is = is;
    tells = refl;
    stays = λ a b. refl;
    mute = λ a b. refl;
    part = refl;
    asks = [];
    same_asks = refl;
    carries = record {
      asks = [];
      moved = refl;
      leads = λ s left stands answered. (
        s,
        (
          told_false (listens s.state.mode)
              (TakesNone (take (length bytes) bytes) (drop (length bytes) bytes) s s) ((drop (length bytes) bytes ≡ []) × (s ≡ s))
              (subst (λ (m : Mode). listens m ≡ false) (ap (λ (t : ToolState). t.mode) stands.tool) off)
              (drop_all (length bytes) bytes (omega arith), refl),
          refl,
          sym (append-nil s.state.device.asked),
        ),
        stands,
        answered,
        sym (append-nil (bytes_sent s.state)),
      );
    };
  }

  module _ (used : ℕ) (middle : Received) (is : IsHeld part_of before job) (on : listens before.tool.mode ≡ true)
      (small : before.receiver.dropped < 2 ^ 64) (feeds : Feeds before.receiver bytes used middle) where
    mode_of : (s : Session) → StandsFor flash (held before job) s → before.tool.mode ≡ s.state.mode
    mode_of s stands = ap (λ (t : ToolState). t.mode) stands.tool

    listens_in : (s : Session) → StandsFor flash (held before job) s → listens s.state.mode ≡ true
    listens_in s stands = subst (λ (m : Mode). listens m ≡ true) (mode_of s stands) on

    held_in : (s : Session) → StandsFor flash (held before job) s → before.receiver.held ≡ s.held
    held_in s stands = sym (keeps-back (goes_on s.state.mode) before.receiver.held s.held (listens_on s.state.mode (listens_in s stands))
        stands.held)

    drops_in : (s : Session) → before.receiver.held ≡ s.held → Drops (s.held ++ take used bytes) before.receiver.dropped middle
    drops_in s e = subst (λ (x : List ℕ). Drops (x ++ take used bytes) before.receiver.dropped middle) e feeds.drops

    none_leads : (Waits middle.held → ⊥) → Leads Idle used [] [] (held (fed_to before middle) job)
    none_leads none = λ s left stands answered.
        let e = held_in s stands in
        let d = drops_in s e in
        let t : Session = record { held = middle.held; state = dropping (length d.items) s.state } in
        let no_rest : drop used bytes ≡ [] = elim (cases_lt used (length bytes)) [
          | inl less ↦ absurd (none (feeds.all less))
          | inr most ↦ drop_all used bytes most
        ] in (
          t,
          (
            told_true (listens s.state.mode) (TakesNone (take used bytes) (drop used bytes) s t) ((drop used bytes ≡ []) × (t ≡ s))
                (listens_in s stands)
                (none_is_taken (take used bytes) (drop used bytes) s middle before.receiver.dropped no_rest d
                (less_settled middle.held d.settled none)),
            refl,
            sym (append-nil s.state.device.asked),
          ),
          stands_as flash (held (fed_to before middle) job) t before.tool.plan.part
              (tool-dropping before.tool.plan.part before.tool s.state before.receiver.dropped middle.dropped (length d.items) small
              d.count stands.tool)
              stands.core stands.comparators stands.words
              (subst (λ (b : Bool). Keeps b middle.held middle.held) (sym (listens_on s.state.mode (listens_in s stands))) refl)
              (sound-dropping (chip_of before.tool.plan.part) (length d.items) s.state stands.sound),
          answered,
          sym (append-nil (bytes_sent s.state)),
        )

    none_does : (Waits middle.held → ⊥) → Call Idle used [] (fed_to before middle)
    none_does none = record {
      now = job;
      is = job-counted part_of before.target before.tool ((before.tool.dropped + risen before.receiver.dropped middle.dropped) % 2 ^ 64)
          job is;
      tells = refl;
      stays = λ a b. refl;
      mute = λ a b. refl;
      part = refl;
      asks = [];
      same_asks = refl;
      carries = record { asks = []; moved = refl; leads = none_leads none };
    }

    first_in : (s : Session) → before.receiver.held ≡ s.held →
        (k : ℕ) → k < length (take used bytes) → HasFrame (s.held ++ take k (take used bytes)) → ⊥
    first_in s e k less has =
        let within : k < used = omega (arith, less, length-take-le used bytes feeds.most) in
        feeds.first k within (subst (λ (x : List ℕ). HasFrame (x ++ take k bytes)) (sym e)
        (subst (λ (y : List ℕ). HasFrame (s.held ++ y)) (take-take k used bytes (omega (arith, within))) has))

    module _ (frame : Frame) (received : Received) (mid : Emulator F) (next : Next F) (out : List ℕ) (some : IsIdle next → ⊥)
        (taken : Takes middle frame received)
        (h : HearsFrame flash part_of (record (fed_to before middle) { receiver = received }) job frame out next mid) where
      frame_leads : Leads next used out h.asks.asks (held (behind_frame (goes_on mid.tool.mode) middle.dropped received mid) h.now)
      frame_leads = λ s left stands answered.
          let part = before.tool.plan.part in
          let e = held_in s stands in
          let d = drops_in s e in
          let more = length taken.2.items in
          let b = goes_on mid.tool.mode in
          let done = h.asks.leads part (bytes_sent s.state) (dropping (length d.items) s.state) left
          (record {
            tool = tool-dropping part before.tool s.state before.receiver.dropped middle.dropped (length d.items) small d.count stands.tool;
            core = stands.core;
            comparators = stands.comparators;
            sent = sym (append-nil (bytes_sent s.state));
          })
          stands.words answered in
          let u = item true (chip_of part) h.heard (dropping (length d.items) s.state) in
          let on_so : goes_on mid.tool.mode ≡ goes_on u.mode = ap (λ (t : ToolState). goes_on t.mode) done.0.tool in
          let end = behind_by b received.held more u in
          let is_take : (f : TakesFrame true (chip_of part) (take used bytes) s end) × (f.heard ≡ h.heard) =
          subst (λ (c : Bool). (f : TakesFrame true (chip_of part) (take used bytes) s (behind_by c received.held more u)) ×
          (f.heard ≡ h.heard))
          (sym on_so) (frame_is_taken (chip_of part) (take used bytes) s middle received frame h.heard before.receiver.dropped d
          (first_in s e) taken h.hears) in
          let sound = sound-item (chip_of part) h.heard (dropping (length d.items) s.state)
          (sound-dropping (chip_of part) (length d.items) s.state stands.sound) in (
            end,
            (
              goes_by next before.tool.mode (chip_of part) (take used bytes) (drop used bytes) s end h.heard some (mode_of s stands) on
                  h.stops is_take,
              by_behind (λ (x : Debugger). x.launches ≡ s.state.launches) b received.held more u (λ n k. k) done.2,
              by_behind (λ (x : Debugger). x.device.asked ≡ s.state.device.asked ++ h.asks.asks) b received.held more u (λ n k. k)
                  (ap (λ (x : Device). x.asked) done.1),
            ),
            stands_as flash (held (behind_frame b middle.dropped received mid) h.now) end part
                (kept_by b part mid.tool u middle.dropped received.dropped more received.held
                (counted-less before.receiver.dropped middle.dropped (length d.items) d.count) taken.2.count done.0.tool)
                (by_behind (λ (x : Debugger). h.now.core ≡ kept (chip_of part) x.machine) b received.held more u (λ n k. k) done.0.core)
                (by_behind (λ (x : Debugger). h.now.comparators ≡ x.comparators) b received.held more u (λ n k. k) done.0.comparators)
                (by_behind (λ (x : Debugger). flash.words h.now.flash ≡ x.device.words) b received.held more u (λ n k. k)
                (ap (λ (x : Device). x.words) (sym done.1)))
                (keeps_by b received.held more u on_so)
                (by_behind (λ (x : Debugger). IsSound (chip_of part) x) b received.held more u
                (λ n k. sound-dropping (chip_of part) n u k) sound),
            by_behind (λ (x : Debugger). x.device.outcomes ≡ left) b received.held more u (λ n k. k)
                (ap (λ (x : Device). x.outcomes) done.1),
            by_behind (λ (x : Debugger). bytes_sent x ≡ bytes_sent s.state ++ out) b received.held more u (λ n k. k) done.0.sent,
          )

      frame_does : Call next used out (behind_frame (goes_on mid.tool.mode) middle.dropped received mid)
      frame_does = record {
        now = h.now;
        is = job-counted_on part_of (goes_on mid.tool.mode) mid.target mid.tool middle.dropped received.dropped h.now h.is;
        tells = tells_by (goes_on mid.tool.mode) next middle.dropped received before
            (record (fed_to before middle) { receiver = received }) mid h.now
            some h.tells;
        stays = h.stays;
        mute = h.mute;
        part = part_by (goes_on mid.tool.mode) middle.dropped received.dropped mid.tool ∙ h.part;
        asks = h.asks.asks;
        same_asks = refl;
        carries = record { asks = h.asks.asks; moved = h.asks.moved; leads = frame_leads };
      }

    off_does : (next : Next F) (out : List ℕ) (after : Emulator F) → (IsIdle next → ⊥) →
        TakesFrameOff flash part_of (fed_to before middle) job out next after → Call next used out after
    off_does next out after some f = subst (λ (e : Emulator F). Call next used out e) (sym f.is)
        (frame_does f.frame after.receiver f.middle next out some f.takes f.hears)

    waiting_does : (next : Next F) (out : List ℕ) (after : Emulator F) →
        TakesWaiting flash part_of (fed_to before middle) job out next after →
        Call next used out after
    waiting_does Idle out after h = subst (λ (o : List ℕ). Call Idle used o after) (sym h.2)
        (subst (λ (e : Emulator F). Call Idle used [] e) (sym h.1) (none_does h.0))
    waiting_does Answered out after h = off_does Answered out after (λ x. x) h
    waiting_does (Launch own) out after h = off_does (Launch own) out after (λ x. x) h
    waiting_does RaiseStop out after h = off_does RaiseStop out after (λ x. x) h
    waiting_does (Closed restored) out after h = off_does (Closed restored) out after (λ x. x) h

    -- bytes are fed and counted, and the frame that waits then is heard
    pub taken_bytes : (tool : ToolState) (next : Next F) (out : List ℕ) (after : Emulator F) → tool ≡ (fed_to before middle).tool →
        ((own : Job F) → IsHeld part_of (record before { receiver = middle; tool = tool }) own →
        TakesWaiting flash part_of (record before { receiver = middle; tool = tool }) own out next after) →
        TakesBytes flash part_of before job bytes out (record { used = used; next = next }) after
    taken_bytes tool next out after counts takes =
        let count = (before.tool.dropped + risen before.receiver.dropped middle.dropped) % 2 ^ 64 in
        let Takes_so : ToolState → Type 0 = λ k. (own : Job F) → IsHeld part_of (record before { receiver = middle; tool = k }) own →
        TakesWaiting flash part_of (record before { receiver = middle; tool = k }) own out next after in (
          feeds.most,
          waiting_does next out after
              (subst Takes_so counts takes job (job-counted part_of before.target before.tool count job is)),
        )

  -- bytes that come while the debugger does not listen
  pub ignored_bytes : (out : List ℕ) → out ≡ [] → IsHeld part_of before job → listens before.tool.mode ≡ false →
      TakesBytes flash part_of before job bytes out (record { used = length bytes; next = Idle }) before
  ignored_bytes out empty is off = (omega arith, subst (λ (o : List ℕ). Call Idle (length bytes) o before) (sym empty) (ignored is off))
