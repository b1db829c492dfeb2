-- A chunk, frame by frame: what is fed makes the run of junk longer, and each frame that waits is listed with the junk ahead of it.
use Rattle.std.proofs.Common.{◌≡◌, ℕ, ◌+◌, ◌-◌, ◌<◌, ◌≤◌, ◌^◌, true, false, List, [], ◌++◌, Option, Some, None, length, take, drop, inl, inr}
use Rattle.std.proofs.Common.{refl, sym, ap, ◌∙◌, subst, arith, append_assoc, append-nil, length-append, length-drop, length-take-le, take-append-drop}
use Rattle.std.proofs.Math.Seq.{take-add}
use Rattle.std.proofs.Math.Nat.{eq-or-lt_of_le}
use Rattle.std.proofs.lemmas.List.{take_all}
use Rattle.std.proofs.KnownBytes.{Appends-nil}
use Rattle.std.specs.Prelude.{codes}
use Rattle.line_spec.specs.Frames.{Frame, IsPartial}
use Rattle.line_spec.proofs.Cuts.{Cuts-more, Cuts-shorter, Begins-shorter}
use Rattle.ice_line.specs.Lines.{WritesAll}
use Rattle.ice_line.proofs.Pieces.{front_more, writes_more}
use Rattle.ice_recv.specs.Received.{Received}
use Rattle.ice_recv.specs.Receiving.{Drops, IsSettled, Waits}
use Rattle.ice_recv.specs.Handing.{Takes}
use Rattle.shell_spec.specs.Listing.{count_text, frame_text}
use Rattle.frame_listing.specs.Steps.{Lists, NextLists, ChunkLists, opened}
use Rattle.frame_listing.proofs.Listed.{Lists-none, Lists-junk, Lists-frame, Lists-more, Lists-then}

-- how the counts move
pub dropped_more : (bytes : List ℕ) (dropped : ℕ) (after : Received) → (d : Drops bytes dropped after) → dropped + length bytes < 2 ^ 63 →
    (after.dropped ≡ dropped + length d.items) × (after.dropped + length after.held ≤ dropped + length bytes)
dropped_more bytes dropped after d few =
    let shorter = Cuts-shorter bytes after.held d.items d.cuts in
    (omega (arith, d.count, few, shorter), omega (arith, d.count, few, shorter))

-- junk that is dropped
drops_list : (bytes : List ℕ) (dropped so_many : ℕ) (after : Received) → Drops bytes dropped after → so_many ≤ dropped →
    dropped + length bytes < 2 ^ 63 → Lists (dropped - so_many) bytes [] (after.dropped - so_many) after.held
drops_list bytes dropped so_many after d run few =
    let is : (dropped - so_many) + length d.items ≡ after.dropped - so_many =
    omega (arith, run, (dropped_more bytes dropped after d few).0) in
    subst (λ (n : ℕ). Lists (dropped - so_many) bytes [] n after.held) is
    (Lists-junk (dropped - so_many) bytes after.held d.items d.cuts d.only)

-- the frame that waits, with the junk ahead of it
pub takes_list : (before after : Received) (so_many : ℕ) (frame : Frame) → Takes before frame after → so_many ≤ before.dropped →
    before.dropped + length before.held < 2 ^ 63 →
    Lists (before.dropped - so_many) before.held (count_text (codes "junk") (before.dropped - so_many) ++ frame_text frame)
    (after.dropped - before.dropped) after.held
takes_list before after so_many frame t run few =
    let text : List ℕ = count_text (codes "junk") (before.dropped - so_many) ++ frame_text frame in
    let shorter = Begins-shorter before.held t.0 frame t.1 in
    let none : before.dropped - before.dropped ≡ 0 = omega arith in
    subst (λ (l : List ℕ). Lists (before.dropped - so_many) before.held l (after.dropped - before.dropped) after.held) (append-nil text)
    (Lists-then (before.dropped - so_many) 0 (after.dropped - before.dropped) before.held t.0 after.held text []
    (Lists-frame (before.dropped - so_many) before.held t.0 frame t.1)
    (subst (λ (n : ℕ). Lists n t.0 [] (after.dropped - before.dropped) after.held) none
    (drops_list t.0 before.dropped before.dropped after t.2 (omega arith) (omega (arith, shorter, few)))))

pub takes_counts : (before after : Received) (frame : Frame) → Takes before frame after → before.dropped + length before.held < 2 ^ 63 →
    (before.dropped ≤ after.dropped) × (after.dropped + length after.held ≤ before.dropped + length before.held) × (length after.held < length before.held)
takes_counts before after frame t few =
    let shorter = Begins-shorter before.held t.0 frame t.1 in
    let moved = dropped_more t.0 before.dropped after t.2 (omega (arith, shorter, few)) in
    (omega (arith, moved.0), omega (arith, moved.1, shorter), omega (arith, moved.0, moved.1, shorter))

-- so much of a chunk is fed, and all that is known of its lines is put
pub record Going (before : Received) (listed_before : ℕ) (chunk : List ℕ) (used : ℕ) (now : Received) (listed_now : ℕ)
    (written written_now : Option (List ℕ)) (faults faults_now : ℕ) : Type 0 where
  pub text : List ℕ
  pub lists : Lists (opened before listed_before) (before.held ++ take used chunk) text (opened now listed_now) now.held
  pub wrote : WritesAll written written_now faults faults_now text

pub going_start : (before : Received) (so_many : ℕ) (chunk : List ℕ) (written : Option (List ℕ)) (faults : ℕ) →
    Going before so_many chunk 0 before so_many written written faults faults
going_start before so_many chunk written faults = record {
  text = [];
  lists = subst (λ (l : List ℕ). Lists (opened before so_many) l [] (opened before so_many) before.held) (sym (append-nil before.held))
      (Lists-none (opened before so_many) before.held);
  wrote = (Appends-nil written, refl);
}

module _ (before : Received) (listed_before : ℕ) (chunk : List ℕ) (used : ℕ) (now : Received) (listed_now : ℕ)
    (written written_now : Option (List ℕ)) (faults faults_now : ℕ)
    (going : Going before listed_before chunk used now listed_now written written_now faults faults_now) where
  pub fed : (rest : List ℕ) (count : ℕ) (after : Received) → rest ≡ drop used chunk → count ≤ length rest → listed_now ≤ now.dropped →
      now.dropped + length now.held + length rest < 2 ^ 63 → Drops (now.held ++ take count rest) now.dropped after →
      Going before listed_before chunk (used + count) after listed_now written written_now faults faults_now
  fed rest count after is within run few d =
      let sizes = length-append now.held (take count rest) in
      let front = length-append (take count rest) (drop count rest) in
      let whole = ap length (take-append-drop count rest) in
      let bytes : (before.held ++ take used chunk) ++ take count rest ≡ before.held ++ take (used + count) chunk =
      append_assoc before.held (take used chunk) (take count rest) ∙
      ap (λ (l : List ℕ). before.held ++ l) (ap (λ (l : List ℕ). take used chunk ++ take count l) is ∙ sym (take-add used count chunk)) in
      record {
        text = going.text;
        lists =
            subst (λ (l : List ℕ). Lists (opened before listed_before) l going.text (opened after listed_now) after.held) bytes
            (subst (λ (l : List ℕ). Lists (opened before listed_before) ((before.held ++ take used chunk) ++ take count rest) l
            (opened after listed_now) after.held) (append-nil going.text)
            (Lists-more (opened before listed_before) (opened now listed_now) (opened after listed_now) (before.held ++ take used chunk)
            (take count rest) now.held after.held going.text [] going.lists
            (drops_list (now.held ++ take count rest) now.dropped listed_now after d run (omega (arith, few, sizes, front, whole)))));
        wrote = going.wrote;
      }

  module _ (after : Received) (listed_after : ℕ) (written_after : Option (List ℕ)) (faults_after : ℕ) where
    pub listed_more : NextLists (Some true) now listed_now after listed_after written_now written_after faults_now faults_after →
        Going before listed_before chunk used after listed_after written written_after faults faults_after
    listed_more h = record {
      text = going.text ++ h.0;
      lists = Lists-then (opened before listed_before) (opened now listed_now) (opened after listed_after) (before.held ++ take used chunk)
          now.held after.held going.text h.0 going.lists h.1;
      wrote = writes_more true written written_now written_after faults faults_now faults_after going.text h.0 going.wrote h.2;
    }

    pub listed_front : NextLists (Some false) now listed_now after listed_after written_now written_after faults_now faults_after →
        ChunkLists false before listed_before chunk after listed_after written written_after faults faults_after
    listed_front h =
        let l = Lists-then (opened before listed_before) (opened now listed_now) (opened after listed_after) (before.held ++ take used chunk)
        now.held after.held going.text h.0 going.lists h.1 in
        let bytes : (before.held ++ take used chunk) ++ drop used chunk ≡ before.held ++ chunk =
        append_assoc before.held (take used chunk) (drop used chunk) ∙ ap (λ (l : List ℕ). before.held ++ l) (take-append-drop used chunk) in (
          going.text ++ h.0,
          opened after listed_after,
          after.held ++ drop used chunk,
          subst (λ (x : List ℕ). Lists (opened before listed_before) x (going.text ++ h.0) (opened after listed_after) (after.held ++ drop used chunk))
              bytes
              (record {
                items = l.items;
                cuts = Cuts-more (before.held ++ take used chunk) (drop used chunk) after.held l.items l.cuts;
                lines = l.lines;
              }),
          front_more written written_now written_after faults faults_now faults_after going.text h.0 going.wrote h.2,
        )

    partial_of : (held : List ℕ) → (Waits held → ⊥) → IsSettled held → IsPartial held
    partial_of held no_frame (inl waits) = absurd (no_frame waits)
    partial_of held no_frame (inr partial) = partial

    -- no frame waits behind the last byte of the chunk
    pub listed_whole : NextLists None now listed_now after listed_after written_now written_after faults_now faults_after →
        take used chunk ≡ chunk → IsSettled now.held →
        ChunkLists true before listed_before chunk after listed_after written written_after faults faults_after
    listed_whole h all settled =
        let run : opened now listed_now ≡ opened after listed_after =
        ap (λ (r : Received). opened r listed_now) (sym h.1) ∙ ap (opened after) (sym h.2) in
        let held : now.held ≡ after.held = ap (λ (r : Received). r.held) (sym h.1) in (
          going.text,
          subst (λ (n : ℕ). Lists (opened before listed_before) (before.held ++ chunk) going.text n after.held) run
              (subst (λ (l : List ℕ). Lists (opened before listed_before) (before.held ++ chunk) going.text (opened now listed_now) l) held
              (subst (λ (l : List ℕ). Lists (opened before listed_before) (before.held ++ l) going.text (opened now listed_now) now.held) all
              going.lists)),
          subst (λ (l : List ℕ). WritesAll written written_after faults faults_after l) (append-nil going.text)
              (writes_more true written written_now written_after faults faults_now faults_after going.text [] going.wrote h.3),
          subst IsPartial held (partial_of now.held h.0 settled),
        )

-- how the counts move where so many bytes are fed
pub fed_counts : (now : Received) (rest : List ℕ) (count : ℕ) (after : Received) → count ≤ length rest →
    now.dropped + length now.held + length rest < 2 ^ 63 → Drops (now.held ++ take count rest) now.dropped after →
    (now.dropped ≤ after.dropped) × (after.dropped + length after.held ≤ now.dropped + length now.held + count)
fed_counts now rest count after within few d =
    let sizes = length-append now.held (take count rest) in
    let front : length (take count rest) ≡ count = length-take-le count rest within in
    let moved = dropped_more (now.held ++ take count rest) now.dropped after d (omega (arith, few, sizes, front, within)) in
    (omega (arith, moved.0), omega (arith, moved.1, sizes, front))

-- where no frame waits, all of the chunk is fed
pub all_fed : (held chunk rest : List ℕ) (used count : ℕ) → rest ≡ drop used chunk → count ≤ length rest → length chunk ≤ 512 →
    (count < length rest → count < 65536 → Waits held) → (Waits held → ⊥) → take (used + count) chunk ≡ chunk
all_fed held chunk rest used count is within few waits none =
    let sizes : length rest ≡ length chunk - used = ap length is ∙ length-drop used chunk in
    elim (eq-or-lt_of_le within) [
      | inl all ↦ take_all (used + count) chunk (omega (arith, sizes, all))
      | inr less ↦ absurd (none (waits less (omega (arith, less, sizes, few))))
    ]
