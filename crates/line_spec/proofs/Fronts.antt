-- What stands at the front of some bytes is told by a few tests, in which missing bytes are read as the wanted ones.
use Rattle.std.proofs.Common.{◌≡◌, ℕ, zero, suc, ◌+◌, ◌-◌, ◌<◌, ◌≤◌, inl, inr, List, [], ◌∷◌, ◌++◌, length, get_or, take, drop, replicate}
use Rattle.std.proofs.Common.{refl, sym, ◌∙◌, ap, arith, append_assoc, append-nil, length-append, length-take, length-drop, drop-drop}
use Rattle.std.proofs.Common.{take-append-drop, get_or-drop}
use Rattle.std.proofs.Math.Seq.{drop-nil}
use Rattle.std.specs.Int.{w16, w32, to_le_bytes, from_le_bytes, byte_at}
use Rattle.std.proofs.lemmas.Nat.{le_bytes_2, le_bytes_4, from_le_bytes-to_le_bytes_4}
use Rattle.std.proofs.lemmas.List.{take_at, take_all, drop_all, length-replicate}
use Rattle.std.proofs.lemmas.Bool.{cases_eq, cases_lt}
use Rattle.line_spec.specs.Check.{check}
use Rattle.line_spec.specs.Frames.{Frame, IsFrame, Begins, IsPartial, IsJunk, IsBytes, body_limit, unchecked, bytes_of}
use Rattle.line_spec.proofs.Bytes.{IsBytes-two, IsBytes-four, IsBytes-append, IsBytes-take, IsBytes-drop, IsBytes-zeros, byte_at_or}
use Rattle.line_spec.proofs.FrameBytes.{headed, length-unchecked, same-Frame, check_bytes, bytes_of-unchecked, bytes_of-headed, small_body}
use Rattle.line_spec.proofs.FrameBytes.{same_from_unchecked}

-- the size of the body, with 0 for each of its bytes that is missing
abbrev pub shown_size : List ℕ → ℕ
shown_size x = from_le_bytes w32 (get_or x 3 0 ∷ get_or x 4 0 ∷ get_or x 5 0 ∷ get_or x 6 0 ∷ [])

-- the frame of that size, with 0 for each byte that is missing
abbrev pub shown_frame : List ℕ → Frame
shown_frame x = record {
  number = from_le_bytes w16 (get_or x 1 0 ∷ get_or x 2 0 ∷ []);
  body = take (shown_size x) (drop 8 x) ++ replicate (shown_size x - (length x - 8)) 0;
}

-- the check of what stands before the check
abbrev pub shown_check : List ℕ → ℕ
shown_check x = check (take (8 + shown_size x) x)

-- start, size and token are those of a frame, as far as the bytes reach
pub record HasHeader (x : List ℕ) : Type 0 where
  pub start : get_or x 0 0x1B ≡ 0x1B
  pub size : shown_size x ≤ body_limit
  pub token : get_or x 7 0x0E ≡ 0x0E

-- a byte that is there, or that is read as the one that comes there, is that one
shown : (x more : List ℕ) (i d : ℕ) → get_or x i (get_or (x ++ more) i d) ≡ get_or (x ++ more) i d
shown [] more i d = refl
shown (a ∷ x) more zero d = refl
shown (a ∷ x) more (suc i) d = shown x more i d

shown_le : (x more : List ℕ) (i : ℕ) → get_or x i 0 ≤ get_or (x ++ more) i 0
shown_le [] more i = omega arith
shown_le (a ∷ x) more zero = omega arith
shown_le (a ∷ x) more (suc i) = shown_le x more i

shown_is : (x more : List ℕ) (i w : ℕ) → get_or (x ++ more) i 0 ≡ w → get_or x i w ≡ w
shown_is x more i w e = ap (λ (d : ℕ). get_or x i d) (sym e) ∙ shown x more i 0 ∙ e

front_of : (frame : Frame) (x behind : List ℕ) → x ≡ bytes_of frame ++ behind
    → x ≡ headed frame.number (length frame.body) ((frame.body ++ check_bytes frame) ++ behind)
front_of frame x behind e = e ∙ ap (λ (t : List ℕ). t ++ behind) (bytes_of-headed frame)

-- a wrong first byte
pub junk_by_start : (x : List ℕ) → (get_or x 0 0x1B ≡ 0x1B → ⊥) → IsJunk x
junk_by_start x wrong frame more behind valid e =
    wrong (shown_is x more 0 0x1B (ap (λ (t : List ℕ). get_or t 0 0) (front_of frame (x ++ more) behind e)))

-- a wrong byte between the size and the body
pub junk_by_token : (x : List ℕ) → (get_or x 7 0x0E ≡ 0x0E → ⊥) → IsJunk x
junk_by_token x wrong frame more behind valid e =
    wrong (shown_is x more 7 0x0E (ap (λ (t : List ℕ). get_or t 7 0) (front_of frame (x ++ more) behind e)))

size-le : (a b c d p q r s : ℕ) → a ≤ p → b ≤ q → c ≤ r → d ≤ s
    → from_le_bytes w32 (a ∷ b ∷ c ∷ d ∷ []) ≤ from_le_bytes w32 (p ∷ q ∷ r ∷ s ∷ [])
size-le a b c d p q r s h i j k = omega arith

-- a size above the limit
pub junk_by_size : (x : List ℕ) → body_limit < shown_size x → IsJunk x
junk_by_size x large frame more behind valid e =
    let whole = from_le_bytes-to_le_bytes_4 (length frame.body) (small_body frame valid) in
    let sizes : shown_size (x ++ more) ≡ length frame.body =
    ap (λ (t : List ℕ). shown_size t) (front_of frame (x ++ more) behind e) ∙ whole in
    let least = size-le _ _ _ _ _ _ _ _ (shown_le x more 3) (shown_le x more 4) (shown_le x more 5) (shown_le x more 6) in
    let size : shown_size x ≤ length frame.body = omega (arith, least, sizes) in
    omega (arith, size, large, valid.body)

-- the eight bytes of a header, with the missing ones as wanted
abbrev header_of : List ℕ → List ℕ
header_of x =
    get_or x 0 0x1B ∷ get_or x 1 0 ∷ get_or x 2 0 ∷ get_or x 3 0 ∷ get_or x 4 0 ∷ get_or x 5 0 ∷ get_or x 6 0 ∷ get_or x 7 0x0E ∷ []

header_split : (x : List ℕ) → x ++ drop (length x) (header_of x) ≡ header_of x ++ drop 8 x
header_split [] = refl
header_split (a ∷ []) = refl
header_split (a ∷ b ∷ []) = refl
header_split (a ∷ b ∷ c ∷ []) = refl
header_split (a ∷ b ∷ c ∷ d ∷ []) = refl
header_split (a ∷ b ∷ c ∷ d ∷ e ∷ []) = refl
header_split (a ∷ b ∷ c ∷ d ∷ e ∷ f ∷ []) = refl
header_split (a ∷ b ∷ c ∷ d ∷ e ∷ f ∷ g ∷ []) = refl
header_split (a ∷ b ∷ c ∷ d ∷ e ∷ f ∷ g ∷ h ∷ x) =
    ap (λ (t : List ℕ). a ∷ b ∷ c ∷ d ∷ e ∷ f ∷ g ∷ h ∷ t) (ap (λ (t : List ℕ). x ++ t) (drop-nil (length x)) ∙ append-nil x)

length-shown_body : (x : List ℕ) → length (shown_frame x).body ≡ shown_size x
length-shown_body x =
    omega (
      arith,
      length-append (take (shown_size x) (drop 8 x)) (replicate (shown_size x - (length x - 8)) 0),
      length-take (shown_size x) (drop 8 x),
      length-drop 8 x,
      length-replicate {A = ℕ} (shown_size x - (length x - 8)) 0,
    )

pub IsFrame-shown : (x : List ℕ) → IsBytes x → HasHeader x → IsFrame (shown_frame x)
IsFrame-shown x b header =
    let low = byte_at_or x 1 0 b (omega arith) in
    let high = byte_at_or x 2 0 b (omega arith) in
    record {
      number = omega (arith, low, high);
      body = omega (arith, length-shown_body x, header.size);
      bytes = IsBytes-append (take (shown_size x) (drop 8 x)) (replicate (shown_size x - (length x - 8)) 0)
          (IsBytes-take (shown_size x) (drop 8 x) (IsBytes-drop 8 x b)) (IsBytes-zeros (shown_size x - (length x - 8)));
    }

assembled-same : (p q t u : ℕ) (n m s r body : List ℕ) → p ≡ q → n ≡ m → s ≡ r → t ≡ u
    → p ∷ n ++ s ++ t ∷ body ≡ q ∷ m ++ r ++ u ∷ body
assembled-same p q t u n m s r body a b c d =
    ap (λ (k : ℕ). k ∷ n ++ s ++ t ∷ body) a ∙ ap (λ (k : List ℕ). q ∷ k ++ s ++ t ∷ body) b
    ∙ ap (λ (k : List ℕ). q ∷ m ++ k ++ t ∷ body) c ∙ ap (λ (k : ℕ). q ∷ m ++ r ++ k ∷ body) d

pub unchecked-shown : (x : List ℕ) → IsBytes x → HasHeader x → unchecked (shown_frame x) ≡ header_of x ++ (shown_frame x).body
unfolding unchecked
unchecked-shown x b header =
    let number = le_bytes_2 (get_or x 1 0 ∷ get_or x 2 0 ∷ []) (shown_frame x).number refl
    (IsBytes-two _ _ (b 1) (b 2)) refl in
    let size = le_bytes_4 (get_or x 3 0 ∷ get_or x 4 0 ∷ get_or x 5 0 ∷ get_or x 6 0 ∷ []) (length (shown_frame x).body) refl
    (IsBytes-four _ _ _ _ (b 3) (b 4) (b 5) (b 6)) (length-shown_body x) in
    assembled-same _ _ _ _ _ _ _ _ (shown_frame x).body (sym header.start) number size (sym header.token)

-- a size that reaches past the bytes
pub partial_by_length : (x : List ℕ) → IsBytes x → HasHeader x → length x < 8 + shown_size x → IsPartial x
partial_by_length x b header short =
    let frame : Frame = shown_frame x in
    let zeros : List ℕ = replicate (shown_size x - (length x - 8)) 0 in
    let missing : List ℕ = (drop (length x) (header_of x) ++ zeros) ++ check_bytes frame in
    let body : take (shown_size x) (drop 8 x) ≡ drop 8 x = take_all (shown_size x) (drop 8 x) (omega (arith, length-drop 8 x)) in
    let before : unchecked frame ≡ x ++ (drop (length x) (header_of x) ++ zeros) =
    unchecked-shown x b header ∙ ap (λ (t : List ℕ). header_of x ++ (t ++ zeros)) body
    ∙ sym (append_assoc (header_of x) (drop 8 x) zeros) ∙ ap (λ (t : List ℕ). t ++ zeros) (sym (header_split x))
    ∙ append_assoc x (drop (length x) (header_of x)) zeros in
    record {
      frame = frame;
      missing = missing;
      valid = IsFrame-shown x b header;
      some_missing = omega (arith, length-append (drop (length x) (header_of x) ++ zeros) (check_bytes frame));
      split = bytes_of-unchecked frame ∙ ap (λ (t : List ℕ). t ++ check_bytes frame) before
          ∙ append_assoc x (drop (length x) (header_of x) ++ zeros) (check_bytes frame);
    }

shown_body-is : (x : List ℕ) → 8 + shown_size x ≤ length x → (shown_frame x).body ≡ take (shown_size x) (drop 8 x)
shown_body-is x enough =
    let padding : shown_size x - (length x - 8) ≡ 0 = omega arith in
    ap (λ (n : ℕ). take (shown_size x) (drop 8 x) ++ replicate n 0) padding ∙ append-nil (take (shown_size x) (drop 8 x))

-- the bytes reach as far as the check
pub record HasBody (x : List ℕ) : Type 0 where
  pub bytes : IsBytes x
  pub header : HasHeader x
  pub enough : 8 + shown_size x ≤ length x

-- the frame as the bytes give it, where they reach as far as the check
pub shown_frame-is : (x : List ℕ) → 8 + shown_size x ≤ length x → (number : ℕ) (body : List ℕ)
    → number ≡ from_le_bytes w16 (get_or x 1 0 ∷ get_or x 2 0 ∷ []) → body ≡ take (shown_size x) (drop 8 x)
    → (let frame : Frame = record { number = number; body = body } in frame) ≡ shown_frame x
shown_frame-is x enough number body n b = same-Frame _ _ n (b ∙ sym (shown_body-is x enough))

body_split : (x : List ℕ) → HasBody x → x ≡ unchecked (shown_frame x) ++ drop (8 + shown_size x) x
body_split x h =
    let size = shown_size x in
    let enough = h.enough in
    let whole : x ≡ header_of x ++ drop 8 x =
    sym (append-nil x) ∙ ap (λ (t : List ℕ). x ++ t) (sym (drop_all (length x) (header_of x) (omega arith))) ∙ header_split x in
    whole ∙ ap (λ (t : List ℕ). header_of x ++ t) (sym (take-append-drop size (drop 8 x)))
    ∙ sym (append_assoc (header_of x) (take size (drop 8 x)) (drop size (drop 8 x)))
    ∙ ap (λ (t : List ℕ). (header_of x ++ t) ++ drop size (drop 8 x)) (sym (shown_body-is x h.enough))
    ∙ ap (λ (t : List ℕ). t ++ drop size (drop 8 x)) (sym (unchecked-shown x h.bytes h.header))
    ∙ ap (λ (t : List ℕ). unchecked (shown_frame x) ++ t) (drop-drop size 8 x)

take_unchecked : (x : List ℕ) → HasBody x → take (8 + shown_size x) x ≡ unchecked (shown_frame x)
take_unchecked x h =
    ap (λ (t : List ℕ). take (8 + shown_size x) t) (body_split x h)
    ∙ take_at (unchecked (shown_frame x)) (drop (8 + shown_size x) x) (8 + shown_size x)
    (omega (arith, length-unchecked (shown_frame x), length-shown_body x))

check_bytes-shown : (x : List ℕ) → HasBody x → check_bytes (shown_frame x) ≡ to_le_bytes w16 (shown_check x)
check_bytes-shown x h = ap (λ (t : List ℕ). to_le_bytes w16 (check t)) (sym (take_unchecked x h))

check_follows : (x more behind : List ℕ) (frame : Frame) → HasBody x → IsFrame frame → x ++ more ≡ bytes_of frame ++ behind
    → drop (8 + shown_size x) x ++ more ≡ to_le_bytes w16 (shown_check x) ++ behind
check_follows x more behind frame h valid e =
    let tail = drop (8 + shown_size x) x in
    let own : Frame = shown_frame x in
    let split : unchecked own ++ (tail ++ more) ≡ unchecked frame ++ (check_bytes frame ++ behind) =
    sym (append_assoc (unchecked own) tail more) ∙ ap (λ (t : List ℕ). t ++ more) (sym (body_split x h)) ∙ e
    ∙ ap (λ (t : List ℕ). t ++ behind) (bytes_of-unchecked frame) ∙ append_assoc (unchecked frame) (check_bytes frame) behind in
    let same = same_from_unchecked own frame (tail ++ more) (check_bytes frame ++ behind) (IsFrame-shown x h.bytes h.header) valid split in
    same.1 ∙ ap (λ (g : Frame). check_bytes g ++ behind) (sym same.0) ∙ ap (λ (t : List ℕ). t ++ behind) (check_bytes-shown x h)

-- a byte behind the body, or the wanted one
behind_body : (x : List ℕ) (i d : ℕ) → get_or (drop (8 + shown_size x) x) i d ≡ get_or x (8 + shown_size x + i) d
behind_body x i d = get_or-drop (8 + shown_size x) x i d

-- a wrong check
pub junk_by_check : (x : List ℕ) → HasBody x
    → (get_or x (8 + shown_size x) (byte_at 0 (shown_check x)) ≡ byte_at 0 (shown_check x)
    → get_or x (9 + shown_size x) (byte_at 1 (shown_check x)) ≡ byte_at 1 (shown_check x) → ⊥)
    → IsJunk x
junk_by_check x h wrong frame more behind valid e =
    let tail = drop (8 + shown_size x) x in
    let follows = check_follows x more behind frame h valid e in
    let at_low : 8 + shown_size x ≡ 8 + shown_size x + 0 = omega arith in
    let at_high : 9 + shown_size x ≡ 8 + shown_size x + 1 = omega arith in
    let low = byte_at 0 (shown_check x) in
    let high = byte_at 1 (shown_check x) in
    wrong
    (ap (λ (k : ℕ). get_or x k low) at_low ∙ sym (behind_body x 0 low)
    ∙ shown_is tail more 0 low (ap (λ (t : List ℕ). get_or t 0 0) follows))
    (ap (λ (k : ℕ). get_or x k high) at_high ∙ sym (behind_body x 1 high)
    ∙ shown_is tail more 1 high (ap (λ (t : List ℕ). get_or t 1 0) follows))

-- the check is right, as far as the bytes reach
pub record HasCheck (x : List ℕ) : Type 0 where
  pub body : HasBody x
  pub low : get_or x (8 + shown_size x) (byte_at 0 (shown_check x)) ≡ byte_at 0 (shown_check x)
  pub high : get_or x (9 + shown_size x) (byte_at 1 (shown_check x)) ≡ byte_at 1 (shown_check x)

two_split : (t : List ℕ) (p q : ℕ) → get_or t 0 p ≡ p → get_or t 1 q ≡ q
    → t ++ drop (length t) (p ∷ q ∷ []) ≡ (p ∷ q ∷ []) ++ drop 2 t
two_split [] p q e f = refl
two_split (a ∷ []) p q e f = ap (λ (k : ℕ). k ∷ q ∷ []) e
two_split (a ∷ b ∷ t) p q e f =
    ap (λ (s : List ℕ). a ∷ b ∷ s) (ap (λ (s : List ℕ). t ++ s) (drop-nil (length t)) ∙ append-nil t)
    ∙ ap (λ (k : ℕ). k ∷ b ∷ t) e ∙ ap (λ (k : ℕ). p ∷ k ∷ t) f

check_split : (x : List ℕ) → HasCheck x → let tail = drop (8 + shown_size x) x in let two = to_le_bytes w16 (shown_check x) in
    tail ++ drop (length tail) two ≡ two ++ drop 2 tail
check_split x h =
    let tail = drop (8 + shown_size x) x in
    let at_low : 8 + shown_size x + 0 ≡ 8 + shown_size x = omega arith in
    let at_high : 8 + shown_size x + 1 ≡ 9 + shown_size x = omega arith in
    let low = byte_at 0 (shown_check x) in
    let high = byte_at 1 (shown_check x) in
    two_split tail low high
    (behind_body x 0 low ∙ ap (λ (k : ℕ). get_or x k low) at_low ∙ h.low)
    (behind_body x 1 high ∙ ap (λ (k : ℕ). get_or x k high) at_high ∙ h.high)

-- the check is right, and part of it is missing
pub partial_by_check : (x : List ℕ) → HasCheck x → length x < 10 + shown_size x → IsPartial x
partial_by_check x h short =
    let own : Frame = shown_frame x in
    let size = shown_size x in
    let tail = drop (8 + size) x in
    let two = to_le_bytes w16 (shown_check x) in
    let missing : List ℕ = drop (length tail) two in
    let last : drop 2 tail ≡ [] = drop_all 2 tail (omega (arith, length-drop (8 + size) x)) in
    record {
      frame = own;
      missing = missing;
      valid = IsFrame-shown x h.body.bytes h.body.header;
      some_missing = omega (arith, length-drop (length tail) two, length-drop (8 + size) x);
      split = bytes_of-unchecked own ∙ ap (λ (t : List ℕ). unchecked own ++ t)
          (check_bytes-shown x h.body ∙ sym (append-nil two) ∙ ap (λ (t : List ℕ). two ++ t) (sym last) ∙ sym (check_split x h))
          ∙ sym (append_assoc (unchecked own) tail missing) ∙ ap (λ (t : List ℕ). t ++ missing) (sym (body_split x h.body));
    }

-- the check is right and whole
pub whole_by_check : (x : List ℕ) (n : ℕ) → HasCheck x → n ≡ 10 + shown_size x → n ≤ length x → Begins (shown_frame x) x (drop n x)
whole_by_check x n h e enough =
    let own : Frame = shown_frame x in
    let size = shown_size x in
    let tail = drop (8 + size) x in
    let two = to_le_bytes w16 (shown_check x) in
    let none : drop (length tail) two ≡ [] = drop_all (length tail) two (omega (arith, length-drop (8 + size) x)) in
    let at_end : 8 + size + 2 ≡ n = omega arith in
    record {
      valid = IsFrame-shown x h.body.bytes h.body.header;
      split = body_split x h.body ∙ ap (λ (t : List ℕ). unchecked own ++ t)
          (sym (append-nil tail) ∙ ap (λ (t : List ℕ). tail ++ t) (sym none) ∙ check_split x h
          ∙ ap (λ (t : List ℕ). two ++ t) (drop-drop 2 (8 + size) x ∙ ap (λ (k : ℕ). drop k x) at_end)
          ∙ ap (λ (t : List ℕ). t ++ drop n x) (sym (check_bytes-shown x h.body)))
          ∙ sym (append_assoc (unchecked own) (check_bytes own) (drop n x))
          ∙ ap (λ (t : List ℕ). t ++ drop n x) (sym (bytes_of-unchecked own));
    }

-- what stands at the front of the bytes
pub data Front (x : List ℕ) : Type 0 where
  whole_front : (frame : Frame) (after : List ℕ) → Begins frame x after → Front x
  partial_front : IsPartial x → Front x
  junk_front : IsJunk x → Front x

front_by_check : (x : List ℕ) → HasCheck x → Front x
front_by_check x h =
    elim (cases_lt (length x) (10 + shown_size x)) [
      | inl short ↦ partial_front (partial_by_check x h short)
      | inr enough ↦ whole_front (shown_frame x) (drop (10 + shown_size x) x) (whole_by_check x (10 + shown_size x) h refl enough)
    ]

front_by_body : (x : List ℕ) → HasBody x → Front x
front_by_body x h =
    elim (cases_eq (get_or x (8 + shown_size x) (byte_at 0 (shown_check x))) (byte_at 0 (shown_check x))) [
      | inr wrong ↦ junk_front (junk_by_check x h (λ l r. wrong l))
      | inl low ↦ elim (cases_eq (get_or x (9 + shown_size x) (byte_at 1 (shown_check x))) (byte_at 1 (shown_check x))) [
        | inr wrong ↦ junk_front (junk_by_check x h (λ l r. wrong r))
        | inl high ↦ front_by_check x (record { body = h; low = low; high = high })
      ]
    ]

front_by_header : (x : List ℕ) → IsBytes x → HasHeader x → Front x
front_by_header x b h =
    elim (cases_lt (length x) (8 + shown_size x)) [
      | inl short ↦ partial_front (partial_by_length x b h short)
      | inr enough ↦ front_by_body x (record { bytes = b; header = h; enough = enough })
    ]

-- a frame, the beginning of one, or junk
pub front : (x : List ℕ) → IsBytes x → Front x
front x b =
    elim (cases_eq (get_or x 0 0x1B) 0x1B) [
      | inr wrong ↦ junk_front (junk_by_start x wrong)
      | inl start ↦ elim (cases_lt body_limit (shown_size x)) [
        | inl large ↦ junk_front (junk_by_size x large)
        | inr size ↦ elim (cases_eq (get_or x 7 0x0E) 0x0E) [
          | inr wrong ↦ junk_front (junk_by_token x wrong)
          | inl token ↦ front_by_header x b (record { start = start; size = size; token = token })
        ]
      ]
    ]
