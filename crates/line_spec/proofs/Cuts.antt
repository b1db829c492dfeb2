-- How cuts are joined and made longer, that each stream of bytes has one, and that it has no second.
use Rattle.std.proofs.Common.{◌≡◌, ℕ, zero, suc, ◌+◌, ◌<◌, ◌≤◌, List, [], ◌∷◌, ◌++◌, length, refl, sym, ◌∙◌, ap, ap₂, subst, get_or, drop}
use Rattle.std.proofs.Common.{arith, append_assoc, append-nil, length-append}
use Rattle.std.proofs.lemmas.List.{nil_from_length}
use Rattle.line_spec.specs.Frames.{Frame, IsFrame, Begins, IsPartial, IsJunk, IsBytes, bytes_of}
use Rattle.line_spec.specs.Cut.{Item, whole, junk, Cuts, IsCut}
use Rattle.line_spec.proofs.Bytes.{IsBytes-nil, IsBytes-left, IsBytes-right, IsBytes-along}
use Rattle.line_spec.proofs.FrameBytes.{IsBytes-bytes_of, length-bytes_of, same_front, same_begins}
use Rattle.line_spec.proofs.Fronts.{whole_front, partial_front, junk_front, front}

pub no_junk_whole : (x after : List ℕ) (frame : Frame) → IsJunk x → Begins frame x after → ⊥
no_junk_whole x after frame j b = j frame [] after b.valid (append-nil x ∙ b.split)

pub no_junk_partial : (x : List ℕ) → IsJunk x → IsPartial x → ⊥
no_junk_partial x j p = j p.frame p.missing [] p.valid (sym p.split ∙ sym (append-nil (bytes_of p.frame)))

pub no_partial_whole : (x after : List ℕ) (frame : Frame) → IsPartial x → Begins frame x after → ⊥
no_partial_whole x after frame p b =
    let e : bytes_of frame ++ (after ++ p.missing) ≡ bytes_of p.frame ++ [] =
    sym (append_assoc (bytes_of frame) after p.missing) ∙ ap (λ (t : List ℕ). t ++ p.missing) (sym b.split)
    ∙ sym p.split ∙ sym (append-nil (bytes_of p.frame)) in
    let front = same_front frame p.frame (after ++ p.missing) [] b.valid p.valid e in
    omega (arith, p.some_missing, ap length front.1, length-append after p.missing)

-- less than a frame is less than the longest frame
pub IsPartial-length : (x : List ℕ) → IsPartial x → length x < 4116
IsPartial-length x p =
    omega (arith, ap length p.split, length-append x p.missing, length-bytes_of p.frame, p.valid.body, p.some_missing)

pub IsPartial-bytes : (x : List ℕ) → IsPartial x → IsBytes x
IsPartial-bytes x p =
    IsBytes-left x p.missing (IsBytes-along (bytes_of p.frame) (x ++ p.missing) p.split (IsBytes-bytes_of p.frame p.valid))

-- a frame with an empty body
pub IsPartial-nil : IsPartial []
IsPartial-nil =
    let empty : Frame = record { number = 0; body = [] } in
    record {
      frame = empty;
      missing = bytes_of empty;
      valid = record { number = omega arith; body = omega arith; bytes = IsBytes-nil };
      some_missing = omega (arith, length-bytes_of empty);
      split = refl;
    }

pub Begins-more : (x after more : List ℕ) (frame : Frame) → Begins frame x after → Begins frame (x ++ more) (after ++ more)
Begins-more x after more frame b = record {
  valid = b.valid;
  split = ap (λ (t : List ℕ). t ++ more) b.split ∙ append_assoc (bytes_of frame) after more;
}

pub IsJunk-more : (x more : List ℕ) → IsJunk x → IsJunk (x ++ more)
IsJunk-more x more j frame others behind valid e = j frame (more ++ others) behind valid (sym (append_assoc x more others) ∙ e)

pub Begins-length : (x after : List ℕ) (frame : Frame) → Begins frame x after
    → length x ≡ 10 + length frame.body + length after
Begins-length x after frame b =
    omega (arith, ap length b.split, length-append (bytes_of frame) after, length-bytes_of frame)

-- a frame takes bytes, so what is behind it is shorter
pub Begins-shorter : (x after : List ℕ) (frame : Frame) → Begins frame x after → length after + 10 ≤ length x
Begins-shorter x after frame b = omega (arith, Begins-length x after frame b)

pub Begins-bytes : (x after : List ℕ) (frame : Frame) → Begins frame x after → IsBytes x → IsBytes after
Begins-bytes x after frame b h =
    IsBytes-right (bytes_of frame) after (IsBytes-along x (bytes_of frame ++ after) b.split h)

-- junk has a first byte
pub IsJunk-some : (x : List ℕ) → IsJunk x → (byte : ℕ) × (after : List ℕ) × (x ≡ byte ∷ after)
IsJunk-some [] j = absurd (no_junk_partial [] j IsPartial-nil)
IsJunk-some (byte ∷ after) j = (byte, after, refl)

-- items that stay so when more bytes come
pub Cuts-more : (x more y : List ℕ) (items : List Item) → Cuts x items y → Cuts (x ++ more) items (y ++ more)
Cuts-more x more y [] c = ap (λ (t : List ℕ). t ++ more) c
Cuts-more x more y (whole frame ∷ items) c =
    (c.0 ++ more, Begins-more x c.0 more frame c.1, Cuts-more c.0 more y items c.2)
Cuts-more x more y (junk byte ∷ items) c =
    (c.0 ++ more, ap (λ (t : List ℕ). t ++ more) c.1, IsJunk-more x more c.2, Cuts-more c.0 more y items c.3)

-- items, and then others
pub Cuts-append : (x y z : List ℕ) (items others : List Item) → Cuts x items y → Cuts y others z → Cuts x (items ++ others) z
Cuts-append x y z [] others c d = let P : List ℕ → Type 0 = λ t. Cuts t others z in subst P (sym c) d
Cuts-append x y z (whole frame ∷ items) others c d = (c.0, c.1, Cuts-append c.0 y z items others c.2 d)
Cuts-append x y z (junk byte ∷ items) others c d = (c.0, c.1, c.2, Cuts-append c.0 y z items others c.3 d)

pub Cuts-nil : (x : List ℕ) → Cuts x [] x
Cuts-nil x = refl

-- one frame
pub Cuts-whole : (x after : List ℕ) (frame : Frame) → Begins frame x after → Cuts x (whole frame ∷ []) after
Cuts-whole x after frame b = (after, b, refl)

-- one junk byte
pub Cuts-junk : (byte : ℕ) (after : List ℕ) → IsJunk (byte ∷ after) → Cuts (byte ∷ after) (junk byte ∷ []) after
Cuts-junk byte after j = (after, refl, j, refl)

pub Cuts-bytes : (x y : List ℕ) (items : List Item) → Cuts x items y → IsBytes x → IsBytes y
Cuts-bytes x y [] c b = IsBytes-along x y c b
Cuts-bytes x y (whole frame ∷ items) c b = Cuts-bytes c.0 y items c.2 (Begins-bytes x c.0 frame c.1 b)
Cuts-bytes x y (junk byte ∷ items) c b =
    Cuts-bytes c.0 y items c.3 (IsBytes-right (byte ∷ []) c.0 (IsBytes-along x (byte ∷ c.0) c.1 b))

pub Cuts-shorter : (x y : List ℕ) (items : List Item) → Cuts x items y → length y + length items ≤ length x
Cuts-shorter x y [] c = omega (arith, ap length c)
Cuts-shorter x y (whole frame ∷ items) c =
    omega (arith, Begins-shorter x c.0 frame c.1, Cuts-shorter c.0 y items c.2)
Cuts-shorter x y (junk byte ∷ items) c = omega (arith, ap length c.1, Cuts-shorter c.0 y items c.3)

-- a written frame, and what follows it
pub IsCut-frame : (frame : Frame) (more rest : List ℕ) (items : List Item) → IsFrame frame → IsCut more items rest
    → IsCut (bytes_of frame ++ more) (whole frame ∷ items) rest
IsCut-frame frame more rest items valid c = record {
  cuts = (more, record { valid = valid; split = refl }, c.cuts);
  partial = c.partial;
}

-- the cut of a longer stream
pub IsCut-more : (x more y z : List ℕ) (items others : List Item) → IsCut x items y → IsCut (y ++ more) others z
    → IsCut (x ++ more) (items ++ others) z
IsCut-more x more y z items others c d = record {
  cuts = Cuts-append (x ++ more) (y ++ more) z items others (Cuts-more x more y items c.cuts) d.cuts;
  partial = d.partial;
}

abbrev pub HasCut : List ℕ → Type 0
HasCut x = (items : List Item) × (rest : List ℕ) × IsCut x items rest

pub HasCut-partial : (x : List ℕ) → IsPartial x → HasCut x
HasCut-partial x p = ([], x, record { cuts = refl; partial = p })

HasCut-whole : (x after : List ℕ) (frame : Frame) → Begins frame x after → HasCut after → HasCut x
HasCut-whole x after frame b c = (whole frame ∷ c.0, c.1, record { cuts = (after, b, c.2.cuts); partial = c.2.partial })

HasCut-junk : (byte : ℕ) (after : List ℕ) → IsJunk (byte ∷ after) → HasCut after → HasCut (byte ∷ after)
HasCut-junk byte after j c = (junk byte ∷ c.0, c.1, record { cuts = (after, refl, j, c.2.cuts); partial = c.2.partial })

cut_within : (n : ℕ) (x : List ℕ) → length x ≤ n → IsBytes x → HasCut x
cut_within zero x h b =
    let P : List ℕ → Type 0 = λ t. IsPartial t in
    HasCut-partial x (subst P (sym (nil_from_length x (omega arith))) IsPartial-nil)
cut_within (suc n) [] h b = HasCut-partial [] IsPartial-nil
cut_within (suc n) (byte ∷ rest) h b =
    elim (front (byte ∷ rest) b) [
      | whole_front frame after begins ↦ HasCut-whole (byte ∷ rest) after frame begins
          (cut_within n after (omega (arith, Begins-shorter (byte ∷ rest) after frame begins))
          (Begins-bytes (byte ∷ rest) after frame begins b))
      | partial_front p ↦ HasCut-partial (byte ∷ rest) p
      | junk_front j ↦ HasCut-junk byte rest j (cut_within n rest (omega arith) (λ i. b (suc i)))
    ]

-- each list of bytes has a cut
pub has_cut : (x : List ℕ) → IsBytes x → HasCut x
has_cut x b = cut_within (length x) x (omega arith) b

-- a list has one cut at most
pub same_cuts : (x y z : List ℕ) (items others : List Item) → Cuts x items y → Cuts x others z → IsPartial y → IsPartial z
    → (items ≡ others) × (y ≡ z)
same_cuts x y z [] [] c d p q = (refl, sym c ∙ d)
same_cuts x y z [] (whole frame ∷ others) c d p q =
    let P : List ℕ → Type 0 = λ t. IsPartial t in absurd (no_partial_whole x d.0 frame (subst P (sym c) p) d.1)
same_cuts x y z [] (junk byte ∷ others) c d p q =
    let P : List ℕ → Type 0 = λ t. IsPartial t in absurd (no_junk_partial x d.2 (subst P (sym c) p))
same_cuts x y z (whole frame ∷ items) [] c d p q =
    let P : List ℕ → Type 0 = λ t. IsPartial t in absurd (no_partial_whole x c.0 frame (subst P (sym d) q) c.1)
same_cuts x y z (junk byte ∷ items) [] c d p q =
    let P : List ℕ → Type 0 = λ t. IsPartial t in absurd (no_junk_partial x c.2 (subst P (sym d) q))
same_cuts x y z (whole frame ∷ items) (junk byte ∷ others) c d p q = absurd (no_junk_whole x c.0 frame d.2 c.1)
same_cuts x y z (junk byte ∷ items) (whole frame ∷ others) c d p q = absurd (no_junk_whole x d.0 frame c.2 d.1)
same_cuts x y z (whole frame ∷ items) (whole other ∷ others) c d p q =
    let same = same_begins x c.0 d.0 frame other c.1 d.1 in
    let P : List ℕ → Type 0 = λ t. Cuts t others z in
    let later = same_cuts c.0 y z items others c.2 (subst P (sym same.1) d.2) p q in
    (ap₂ (λ (f : Frame) (t : List Item). whole f ∷ t) same.0 later.0, later.1)
same_cuts x y z (junk byte ∷ items) (junk other ∷ others) c d p q =
    let e : byte ∷ c.0 ≡ other ∷ d.0 = sym c.1 ∙ d.1 in
    let bytes : byte ≡ other = ap (λ (t : List ℕ). get_or t 0 0) e in
    let rests : c.0 ≡ d.0 = ap (λ (t : List ℕ). drop 1 t) e in
    let P : List ℕ → Type 0 = λ t. Cuts t others z in
    let later = same_cuts c.0 y z items others c.3 (subst P (sym rests) d.3) p q in
    (ap₂ (λ (k : ℕ) (t : List Item). junk k ∷ t) bytes later.0, later.1)

pub same_cut : (x y z : List ℕ) (items others : List Item) → IsCut x items y → IsCut x others z → (items ≡ others) × (y ≡ z)
same_cut x y z items others c d = same_cuts x y z items others c.cuts d.cuts c.partial d.partial
