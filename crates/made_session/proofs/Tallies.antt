-- The bytes of whole frames come to the replies and events that they are, and to the check of their bodies.
use Rattle.std.proofs.Common.{◌≡◌, ℕ, suc, ◌+◌, ◌<◌, ◌^◌, ◌==◌, Bool, true, false, not, cond, List, [], ◌∷◌, ◌++◌, length}
use Rattle.std.proofs.Common.{refl, sym, ap, ◌∙◌, arith, append_assoc, fold, zero-add, ◌*◌, ◌/◌, ◌%◌}
use Rattle.std.specs.List.{All, flat_map}
use Rattle.std.proofs.lemmas.Grind.{fold-append}
use Rattle.line_spec.specs.Frames.{Frame, bytes_of}
use Rattle.line_spec.specs.Check.{check, checked}
use Rattle.line_spec.specs.Hearing.{event_number}
use Rattle.line_spec.proofs.FrameBytes.{headed, check_bytes, bytes_of-headed}
use Rattle.shell_spec.specs.Sent.{is_event, events_in, replies_in}
use Rattle.ice_base.specs.Counts.{next_count}
use Rattle.made_session.specs.declared.count.Count.{Count}
use Rattle.made_session.specs.Counting.{counted, start}

-- the number and the size of the frame fit their bytes
abbrev pub IsSmall : Frame → Type 0
IsSmall frame = (frame.number < 2 ^ 16) × (length frame.body < 2 ^ 32)

-- between two frames, and within a body
abbrev between : (replies events check number : ℕ) → Count
between replies events check number = record { replies = replies; events = events; check = check; place = 0; number = number; left = 0 }

abbrev inside : (replies events check number left : ℕ) → Count
inside replies events check number left =
    record { replies = replies; events = events; check = check; place = 8; number = number; left = left }

same_between : (r s e f c d n : ℕ) → r ≡ s → e ≡ f → c ≡ d → between r e c n ≡ between s f d n
same_between r s e f c d n same_r same_e same_c =
    ap (λ (x : ℕ). between x e c n) same_r ∙ ap (λ (x : ℕ). between s x c n) same_e ∙ ap (λ (x : ℕ). between s f x n) same_c

-- the header gives the number and the size
number_shown : (n m : ℕ) → n < 2 ^ 16 → m < 2 ^ 16 → (m / 256 + 256 * (n % 256)) / 256 + 256 * (n / 256 % 256) ≡ n
number_shown n m small before = omega (arith, small, before)

size_shown : (s : ℕ) → s < 2 ^ 32 →
    (((0 / 256 + 0x1000000 * (s % 256)) / 256 + 0x1000000 * (s / 256 % 256)) / 256 + 0x1000000 * (s / 65536 % 256)) / 256
    + 0x1000000 * (s / 16777216 % 256) ≡ s
size_shown s small = omega (arith, small)

fold-headed : (r e k m number size : ℕ) (rest : List ℕ) → m < 2 ^ 16 → number < 2 ^ 16 → size < 2 ^ 32 →
    fold counted (between r e k m) (headed number size rest) ≡ fold counted (inside r e k number size) rest
fold-headed r e k m number size rest before small few =
    let sized : ℕ → Count = λ n. inside r e k n
    ((((0 / 256 + 0x1000000 * (size % 256)) / 256 + 0x1000000 * (size / 256 % 256)) / 256 + 0x1000000 * (size / 65536 % 256)) / 256
    + 0x1000000 * (size / 16777216 % 256)) in
    ap (λ (n : ℕ). fold counted (sized n) rest) (number_shown number m small before) ∙
    ap (λ (s : ℕ). fold counted (inside r e k number s) rest) (size_shown size few)

fold-body : (r e k number : ℕ) (body rest : List ℕ) →
    fold counted (inside r e k number (length body)) (body ++ rest) ≡ fold counted (inside r e (fold checked k body) number 0) rest
fold-body r e k number [] rest = refl
fold-body r e k number (byte ∷ body) rest = fold-body r e (checked k byte) number body rest

-- behind its check the frame is one reply more, or one event
abbrev counted_once : Bool → (r e k number : ℕ) → Count
counted_once event r e k number = cond event (between r (next_count e) k number) (between (next_count r) e k number)

fold-end : (r e k number : ℕ) (frame : Frame) (rest : List ℕ) →
    fold counted (inside r e k number 0) (check_bytes frame ++ rest) ≡ fold counted (counted_once (number == event_number) r e k number) rest
fold-end r e k number frame rest = refl

fold-frame : (r e k m : ℕ) (frame : Frame) (rest : List ℕ) → m < 2 ^ 16 → IsSmall frame →
    fold counted (between r e k m) (bytes_of frame ++ rest) ≡
    fold counted (counted_once (is_event frame) r e (fold checked k frame.body) frame.number) rest
fold-frame r e k m frame rest before small =
    ap (λ (bytes : List ℕ). fold counted (between r e k m) (bytes ++ rest)) (bytes_of-headed frame) ∙
    fold-headed r e k m frame.number (length frame.body) ((frame.body ++ check_bytes frame) ++ rest) before small.0 small.1 ∙
    ap (λ (bytes : List ℕ). fold counted (inside r e k frame.number (length frame.body)) bytes) (append_assoc frame.body (check_bytes frame) rest) ∙
    fold-body r e k frame.number frame.body (check_bytes frame ++ rest) ∙
    fold-end r e (fold checked k frame.body) frame.number frame rest

-- one frame more among the events, or among the replies
length-events : (frame : Frame) (frames : List Frame) →
    length (events_in (frame ∷ frames)) ≡ cond (is_event frame) (suc (length (events_in frames))) (length (events_in frames))
length-events frame frames =
    elim (is_event frame) as (λ b. length (cond b (frame ∷ events_in frames) (events_in frames)) ≡
    cond b (suc (length (events_in frames))) (length (events_in frames))) [ true ↦ refl | false ↦ refl ]

length-replies : (frame : Frame) (frames : List Frame) →
    length (replies_in (frame ∷ frames)) ≡ cond (is_event frame) (length (replies_in frames)) (suc (length (replies_in frames)))
length-replies frame frames =
    elim (is_event frame) as (λ b. length (cond (not b) (frame ∷ replies_in frames) (replies_in frames)) ≡
    cond b (length (replies_in frames)) (suc (length (replies_in frames)))) [ true ↦ refl | false ↦ refl ]

next_count-below : (n : ℕ) → n + 1 < 2 ^ 64 → next_count n ≡ n + 1
next_count-below n below = omega (arith, below)

-- bodies, joined
abbrev pub bodies : List Frame → List ℕ
bodies frames = flat_map (λ (frame : Frame). frame.body) frames

-- from counts between two frames the bytes come to the frames' counts
record Tallied (r e k : ℕ) (frames : List Frame) (count : Count) : Type 0 where
  number : ℕ
  small : number < 2 ^ 16
  is : count ≡ between (r + length (replies_in frames)) (e + length (events_in frames)) (fold checked k (bodies frames)) number

tallied : (frames : List Frame) (r e k m : ℕ) → All IsSmall frames → m < 2 ^ 16 → (r + e) + length frames < 2 ^ 64 →
    Tallied r e k frames (fold counted (between r e k m) (flat_map bytes_of frames))
tallied [] r e k m all before few =
    record { number = m; small = before; is = same_between r (r + 0) e (e + 0) k k m (omega arith) (omega arith) refl }
tallied (frame ∷ frames) r e k m all before few =
    by_kind (is_event frame) (length-events frame frames) (length-replies frame frames)
    (fold-frame r e k m frame (flat_map bytes_of frames) before small)
    (λ s f below. tallied frames s f checks frame.number (λ i d inside. all (suc i) d (omega (arith, inside))) small.0 below)
  where
    small : IsSmall frame
    small = all 0 frame (omega arith)

    checks : ℕ
    checks = fold checked k frame.body

    joined : fold checked checks (bodies frames) ≡ fold checked k (bodies (frame ∷ frames))
    joined = sym (fold-append checked k frame.body (bodies frames))

    by_kind : (b : Bool) → length (events_in (frame ∷ frames)) ≡ cond b (suc (length (events_in frames))) (length (events_in frames)) →
        length (replies_in (frame ∷ frames)) ≡ cond b (length (replies_in frames)) (suc (length (replies_in frames))) →
        fold counted (between r e k m) (flat_map bytes_of (frame ∷ frames)) ≡
        fold counted (counted_once b r e checks frame.number) (flat_map bytes_of frames) →
        ((s f : ℕ) → (s + f) + length frames < 2 ^ 64 →
        Tallied s f checks frames (fold counted (between s f checks frame.number) (flat_map bytes_of frames))) →
        Tallied r e k (frame ∷ frames) (fold counted (between r e k m) (flat_map bytes_of (frame ∷ frames)))
    by_kind true events replies first later =
        let more = next_count-below e (omega (arith, few)) in
        let rest = later r (next_count e) (omega (arith, more, few)) in
        record {
          number = rest.number;
          small = rest.small;
          is = first ∙ rest.is ∙ same_between _ _ _ _ _ _ rest.number (omega (arith, replies)) (omega (arith, events, more)) joined;
        }
    by_kind false events replies first later =
        let more = next_count-below r (omega (arith, few)) in
        let rest = later (next_count r) e (omega (arith, more, few)) in
        record {
          number = rest.number;
          small = rest.small;
          is = first ∙ rest.is ∙ same_between _ _ _ _ _ _ rest.number (omega (arith, replies, more)) (omega (arith, events)) joined;
        }

-- what whole frames come to
pub record Tells (count : Count) (frames : List Frame) : Type 0 where
  pub replies : count.replies ≡ length (replies_in frames)
  pub events : count.events ≡ length (events_in frames)
  pub check : count.check ≡ check (bodies frames)

check-fold : (bytes : List ℕ) → fold checked 0xFFFF bytes ≡ check bytes
unfolding check
check-fold bytes = refl

pub tells : (frames : List Frame) → All IsSmall frames → length frames < 2 ^ 64 → Tells (fold counted start (flat_map bytes_of frames)) frames
tells frames all few =
    let t = tallied frames 0 0 0xFFFF 0 all (omega arith) (omega (arith, few)) in
    record {
      replies = ap (λ (count : Count). count.replies) t.is ∙ zero-add (length (replies_in frames));
      events = ap (λ (count : Count). count.events) t.is ∙ zero-add (length (events_in frames));
      check = ap (λ (count : Count). count.check) t.is ∙ check-fold (bodies frames);
    }
