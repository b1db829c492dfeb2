use Rattle.std.proofs.Common.{◌≡◌, ◌+◌, ◌-◌, take, drop, ℕ, List, sym, ap, ◌∙◌, subst, arith}
use Rattle.std.specs.Int.{w16, to_le_bytes}
use Rattle.line_spec.specs.Frames.{Frame, IsBytes, Begins}
use Rattle.line_spec.proofs.Fronts.{HasHeader, HasBody, HasCheck, shown_size, shown_check, shown_frame, shown_frame-is, junk_by_start, junk_by_size, junk_by_token, junk_by_check, partial_by_length, partial_by_check, whole_by_check}
use Rattle.ice_frame.specs.Front.{frame_of}
use Rattle.ice_frame.proofs.Reading.{header_read, body_read, two_read, same_test, check_read}
use Rattle.ice_frame.proofs.frame.read_frame.Goals as goal
use Rattle.ice_frame.proofs.frame.read_frame.Goals.{then-at_or-ne-START-via-then-at_or-ne-START, then-at_or-ne-START-via-else-at_or-ne-START+then-size-gt-SIZE_LIMIT, then-at_or-ne-START-via-else-at_or-ne-START+else-size-gt-SIZE_LIMIT+then-at_or-ne-TOKEN, then-at_or-low-via-then-at_or-low, then-at_or-low-via-else-at_or-low+then-at_or-high}

pub returns-then-at_or-ne-START : goal.returns-then-at_or-ne-START
returns-then-at_or-ne-START c =
    let x : List ℕ = c.args.bytes.now in
    elim c.then-at_or-ne-START.branch [
      | then-at_or-ne-START-via-then-at_or-ne-START w ↦ junk_by_start x (λ e. w.if-at_or-ne-START.true (c.at_or.ensures ∙ e))
      | then-at_or-ne-START-via-else-at_or-ne-START+then-size-gt-SIZE_LIMIT w ↦
          junk_by_size x (omega (arith, c.shown_size-size.ensures, w.if-size-gt-SIZE_LIMIT.true))
      | then-at_or-ne-START-via-else-at_or-ne-START+else-size-gt-SIZE_LIMIT+then-at_or-ne-TOKEN w ↦
          junk_by_token x (λ e. w.if-at_or-ne-TOKEN.true (w.at_or-else-size-gt-SIZE_LIMIT.ensures ∙ e))
    ]

pub returns-then-bytes-end : goal.returns-then-bytes-end
returns-then-bytes-end c =
    let x : List ℕ = c.args.bytes.now in
    let bytes : IsBytes x = λ i. omega (arith, c.type_inv.bytes i) in
    let header : HasHeader x = header_read x _ _ _ c.at_or.ensures c.if-at_or-ne-START.false c.shown_size-size.ensures
    c.if-size-gt-SIZE_LIMIT.false c.at_or-else-size-gt-SIZE_LIMIT.ensures c.if-at_or-ne-TOKEN.false in
    partial_by_length x bytes header (omega (arith, c.shown_size-size.ensures, c.if-bytes-end.true))

pub returns-then-at_or-low : goal.returns-then-at_or-low
returns-then-at_or-low c =
    let x : List ℕ = c.args.bytes.now in
    let bytes : IsBytes x = λ i. omega (arith, c.type_inv.bytes i) in
    let size : c.shown_size-size.result ≡ shown_size x = c.shown_size-size.ensures in
    let header : HasHeader x = header_read x _ _ _ c.at_or.ensures c.if-at_or-ne-START.false size
    c.if-size-gt-SIZE_LIMIT.false c.at_or-else-size-gt-SIZE_LIMIT.ensures c.if-at_or-ne-TOKEN.false in
    let body : HasBody x = body_read x _ bytes header size c.if-bytes-end.false in
    let own : List ℕ = c.to_le_bytes.result in
    let two : own ≡ to_le_bytes w16 (shown_check x) = two_read x _ _ own size c.crc.ensures c.to_le_bytes.ensures in
    let k : ℕ = c.shown_size-size.result in
    let low_place : 8 + shown_size x ≡ 8 + k = omega (arith, size) in
    let high_place : 9 + shown_size x ≡ 8 + k + 1 = omega (arith, size) in
    elim c.then-at_or-low.branch [
      | then-at_or-low-via-then-at_or-low w ↦ junk_by_check x body
          (λ low high. w.if-at_or-low.true (c.at_or-2.ensures ∙ same_test x _ own _ (8 + k) 0 low_place (sym two) low))
      | then-at_or-low-via-else-at_or-low+then-at_or-high w ↦ junk_by_check x body
          (λ low high. w.if-at_or-high.true (w.at_or-else-at_or-low.ensures ∙ same_test x _ own _ (8 + k + 1) 1 high_place (sym two) high))
    ]

pub returns-then-bytes-end-2 : goal.returns-then-bytes-end-2
returns-then-bytes-end-2 c =
    let x : List ℕ = c.args.bytes.now in
    let bytes : IsBytes x = λ i. omega (arith, c.type_inv.bytes i) in
    let size : c.shown_size-size.result ≡ shown_size x = c.shown_size-size.ensures in
    let header : HasHeader x = header_read x _ _ _ c.at_or.ensures c.if-at_or-ne-START.false size
    c.if-size-gt-SIZE_LIMIT.false c.at_or-else-size-gt-SIZE_LIMIT.ensures c.if-at_or-ne-TOKEN.false in
    let body : HasBody x = body_read x _ bytes header size c.if-bytes-end.false in
    let own : List ℕ = c.to_le_bytes.result in
    let two : own ≡ to_le_bytes w16 (shown_check x) = two_read x _ _ own size c.crc.ensures c.to_le_bytes.ensures in
    let checked : HasCheck x = check_read x own _ _ _ body size two c.at_or-2.ensures c.if-at_or-low.false
    c.at_or-else-at_or-low.ensures c.if-at_or-high.false in
    partial_by_check x checked (omega (arith, size, c.if-bytes-end-2.true))

pub returns : goal.returns
returns c =
    let x : List ℕ = c.args.bytes.now in
    let bytes : IsBytes x = λ i. omega (arith, c.type_inv.bytes i) in
    let size : c.shown_size-size.result ≡ shown_size x = c.shown_size-size.ensures in
    let header : HasHeader x = header_read x _ _ _ c.at_or.ensures c.if-at_or-ne-START.false size
    c.if-size-gt-SIZE_LIMIT.false c.at_or-else-size-gt-SIZE_LIMIT.ensures c.if-at_or-ne-TOKEN.false in
    let body : HasBody x = body_read x _ bytes header size c.if-bytes-end.false in
    let own : List ℕ = c.to_le_bytes.result in
    let two : own ≡ to_le_bytes w16 (shown_check x) = two_read x _ _ own size c.crc.ensures c.to_le_bytes.ensures in
    let checked : HasCheck x = check_read x own _ _ _ body size two c.at_or-2.ensures c.if-at_or-low.false
    c.at_or-else-at_or-low.ensures c.if-at_or-high.false in
    let n : ℕ = 8 + c.shown_size-size.result + 2 in
    let begins = whole_by_check x n checked (omega (arith, size)) c.if-bytes-end-2.false in
    let length_read : 8 + c.shown_size-size.result - 8 ≡ shown_size x = omega (arith, size) in
    let same : frame_of c.shown_frame.result ≡ shown_frame x = shown_frame-is x body.enough _ _ c.shown_frame.ensures.number
    (c.shown_frame.ensures.body ∙ ap (λ (k : ℕ). take k (drop 8 x)) length_read) in
    let P : Frame → Type 0 = λ f. Begins f x (drop n x) in
    (subst P (sym same) begins, c.if-bytes-end-2.false)
