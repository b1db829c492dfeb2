-- What was heard, and what is heard next.
use Rattle.std.proofs.Common.{◌≡◌, ℕ, ◌+◌, ◌<◌, ◌≤◌, List, [], ◌∷◌, ◌++◌, length, refl, sym, subst, ap, ◌∙◌}
use Rattle.std.proofs.Common.{append-nil, append_assoc, length-append, arith}
use Rattle.line_spec.specs.Frames.{Frame, Begins}
use Rattle.line_spec.specs.Cut.{Item, whole, junk, Cuts}
use Rattle.line_spec.proofs.Cuts.{Cuts-append, Cuts-more, Cuts-whole}
use Rattle.ice_msg.specs.declared.event.Event.{Event}
use Rattle.ice_recv.specs.Receiving.{OnlyJunk}
use Rattle.ice_recv.specs.Handing.{frames_in}
use Rattle.host_session.specs.Standing.{Standing}
use Rattle.host_session.specs.Words.{Words, Received, ReceivedAll, joined}
use Rattle.host_session.specs.Hearing.{SkipsJunk, PassesOver, PassesOverAll}
use Rattle.host_session.specs.Awaiting.{Hears, receive_limit}

pub frames_in-append : (items others : List Item) → frames_in (items ++ others) ≡ frames_in items ++ frames_in others
frames_in-append [] others = refl
frames_in-append (whole frame ∷ items) others = ap (λ (t : List Frame). frame ∷ t) (frames_in-append items others)
frames_in-append (junk byte ∷ items) others = frames_in-append items others

pub frames_in-junk : (items : List Item) → OnlyJunk items → frames_in items ≡ []
frames_in-junk [] o = refl
frames_in-junk (whole frame ∷ items) o = absurd o
frames_in-junk (junk byte ∷ items) o = frames_in-junk items o

pub joined-more : (pieces : List (List ℕ)) (piece : List ℕ) → joined (pieces ++ piece ∷ []) ≡ joined pieces ++ piece
joined-more [] piece = append-nil piece
joined-more (first ∷ pieces) piece =
    ap (λ (t : List ℕ). first ++ t) (joined-more pieces piece) ∙ sym (append_assoc first (joined pieces) piece)

pub ReceivedAll-more : {L : Type 0} (words : Words L) (before middle after : L) (pieces : List (List ℕ)) (piece : List ℕ)
    → ReceivedAll words before pieces middle → 0 < length piece → Received words middle piece after
    → ReceivedAll words before (pieces ++ piece ∷ []) after
ReceivedAll-more words before middle after [] piece e some r =
    let P : _ → Type 0 = λ l. Received words l piece after in (after, some, subst P (sym e) r, refl)
ReceivedAll-more words before middle after (first ∷ pieces) piece all some r =
    (all.0, all.1, all.2, ReceivedAll-more words all.0 middle after pieces piece all.3 some r)

pub PassesOverAll-more : (wanted : ℕ) (frames : List Frame) (events : List Event) (frame : Frame) (more : List Event)
    → PassesOverAll wanted frames events → PassesOver wanted frame more → PassesOverAll wanted (frames ++ frame ∷ []) (events ++ more)
PassesOverAll-more wanted [] events frame more e p =
    (more, [], p, refl, ap (λ (t : List Event). t ++ more) e ∙ sym (append-nil more))
PassesOverAll-more wanted (first ∷ frames) events frame more all p = (
  all.0,
  all.1 ++ more,
  all.2,
  PassesOverAll-more wanted frames all.1 frame more all.3 p,
  ap (λ (t : List Event). t ++ more) all.4 ∙ append_assoc all.0 all.1 more,
)

pub no_piece : length (joined []) ≤ receive_limit
no_piece = omega arith

-- nothing was heard
abbrev pub Hears-none : {L : Type 0} (words : Words L) (wanted : ℕ) (before : Standing L) → Hears words wanted before before
Hears-none words wanted before = record {
  pieces = [];
  items = [];
  events = [];
  received = refl;
  limit = no_piece;
  cuts = append-nil before.pending;
  passed = refl;
  kept = sym (append-nil before.kept);
}

-- junk is skipped
abbrev pub Hears-junk : {L : Type 0} (words : Words L) (wanted : ℕ) (before at : Standing L) (after : List ℕ) → Hears words wanted before at
    → SkipsJunk at.pending after → Hears words wanted before (record { link = at.link; pending = after; kept = at.kept })
Hears-junk words wanted before at after h s =
    let frames : frames_in (h.items ++ s.items) ≡ frames_in h.items =
    frames_in-append h.items s.items ∙ ap (λ (t : List Frame). frames_in h.items ++ t) (frames_in-junk s.items s.only)
    ∙ append-nil (frames_in h.items) in
    let P : List Frame → Type 0 = λ t. PassesOverAll wanted t h.events in
    record {
      pieces = h.pieces;
      items = h.items ++ s.items;
      events = h.events;
      received = h.received;
      limit = h.limit;
      cuts = Cuts-append (before.pending ++ joined h.pieces) at.pending after h.items s.items h.cuts s.cuts;
      passed = subst P (sym frames) h.passed;
      kept = h.kept;
    }

-- a frame is passed over
abbrev pub Hears-frame : {L : Type 0} (words : Words L) (wanted : ℕ) (before at : Standing L) (frame : Frame) (behind : List ℕ)
    (events kept : List Event) → Hears words wanted before at → Begins frame at.pending behind → PassesOver wanted frame events
    → kept ≡ at.kept ++ events → Hears words wanted before (record { link = at.link; pending = behind; kept = kept })
Hears-frame words wanted before at frame behind events kept h b p k =
    let P : List Frame → Type 0 = λ t. PassesOverAll wanted t (h.events ++ events) in
    record {
      pieces = h.pieces;
      items = h.items ++ whole frame ∷ [];
      events = h.events ++ events;
      received = h.received;
      limit = h.limit;
      cuts = Cuts-append (before.pending ++ joined h.pieces) at.pending behind h.items (whole frame ∷ []) h.cuts
          (Cuts-whole at.pending behind frame b);
      passed = subst P (sym (frames_in-append h.items (whole frame ∷ [])))
          (PassesOverAll-more wanted (frames_in h.items) h.events frame events h.passed p);
      kept = k ∙ ap (λ (t : List Event). t ++ events) h.kept ∙ append_assoc before.kept h.events events;
    }

-- a piece is received
abbrev pub Hears-piece : {L : Type 0} (words : Words L) (wanted : ℕ) (before at : Standing L) (link : L) (piece pending : List ℕ)
    → (h : Hears words wanted before at) → 0 < length piece → Received words at.link piece link → pending ≡ at.pending ++ piece
    → length (joined h.pieces) + length piece ≤ receive_limit
    → Hears words wanted before (record { link = link; pending = pending; kept = at.kept })
Hears-piece words wanted before at link piece pending h some r p within =
    let more : joined (h.pieces ++ piece ∷ []) ≡ joined h.pieces ++ piece = joined-more h.pieces piece in
    let all : (before.pending ++ joined h.pieces) ++ piece ≡ before.pending ++ joined (h.pieces ++ piece ∷ []) =
    append_assoc before.pending (joined h.pieces) piece ∙ ap (λ (t : List ℕ). before.pending ++ t) (sym more) in
    let P : List ℕ → Type 0 = λ t. Cuts t h.items (at.pending ++ piece) in
    let Q : List ℕ → Type 0 = λ t. Cuts (before.pending ++ joined (h.pieces ++ piece ∷ [])) h.items t in
    record {
      pieces = h.pieces ++ piece ∷ [];
      items = h.items;
      events = h.events;
      received = ReceivedAll-more words before.link at.link link h.pieces piece h.received some r;
      limit = omega (arith, within, ap length more, length-append (joined h.pieces) piece);
      cuts = subst Q (sym p) (subst P all (Cuts-more (before.pending ++ joined h.pieces) piece at.pending h.items h.cuts));
      passed = h.passed;
      kept = h.kept;
    }

-- so many bytes were received then
pub joined-size : (pieces : List (List ℕ)) (piece : List ℕ) → length (joined (pieces ++ piece ∷ [])) ≡ length (joined pieces) + length piece
joined-size pieces piece = ap length (joined-more pieces piece) ∙ length-append (joined pieces) piece
