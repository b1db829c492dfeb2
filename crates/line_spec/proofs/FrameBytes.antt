-- The bytes of a frame, cell by cell, and that no frame begins another.
use Rattle.std.proofs.Common.{◌≡◌, ℕ, ◌+◌, ◌<◌, ◌^◌, List, ◌∷◌, ◌++◌, length, take, drop, refl, sym, ◌∙◌, ap, arith, append_assoc}
use Rattle.std.proofs.Common.{length-append}
use Rattle.line_spec.proofs.Bytes.{IsBytes-cons, IsBytes-append, IsBytes-along, IsBytes-two, IsBytes-four}
use Rattle.std.specs.Int.{w16, w32, to_le_bytes, from_le_bytes, byte_at}
use Rattle.std.proofs.lemmas.Nat.{from_le_bytes-to_le_bytes_2, from_le_bytes-to_le_bytes_4}
use Rattle.std.proofs.lemmas.List.{take_at, append_cancel_left}
use Rattle.line_spec.specs.Check.{check}
use Rattle.line_spec.specs.Frames.{Frame, IsFrame, Begins, IsBytes, unchecked, bytes_of}

-- the first eight bytes of a frame, and then others
abbrev pub headed : ℕ → ℕ → List ℕ → List ℕ
headed number size rest =
    0x1B ∷ byte_at 0 number ∷ byte_at 1 number ∷ byte_at 0 size ∷ byte_at 1 size ∷ byte_at 2 size ∷ byte_at 3 size ∷ 0x0E ∷ rest

-- the two bytes of the check of a frame
abbrev pub check_bytes : Frame → List ℕ
check_bytes frame = to_le_bytes w16 (check (unchecked frame))

pub unchecked-headed : (frame : Frame) → unchecked frame ≡ headed frame.number (length frame.body) frame.body
unfolding unchecked
unchecked-headed frame = refl

pub bytes_of-unchecked : (frame : Frame) → bytes_of frame ≡ unchecked frame ++ check_bytes frame
unfolding bytes_of
bytes_of-unchecked frame = refl

pub bytes_of-headed : (frame : Frame) → bytes_of frame ≡ headed frame.number (length frame.body) (frame.body ++ check_bytes frame)
bytes_of-headed frame = bytes_of-unchecked frame ∙ ap (λ (t : List ℕ). t ++ check_bytes frame) (unchecked-headed frame)

pub length-unchecked : (frame : Frame) → length (unchecked frame) ≡ 8 + length frame.body
length-unchecked frame = omega (arith, ap length (unchecked-headed frame))

pub length-bytes_of : (frame : Frame) → length (bytes_of frame) ≡ 10 + length frame.body
length-bytes_of frame =
    omega (arith, ap length (bytes_of-headed frame), length-append frame.body (check_bytes frame))

headed-number : (n m s t : ℕ) (x y : List ℕ) → n < 2 ^ 16 → m < 2 ^ 16 → headed n s x ≡ headed m t y → n ≡ m
headed-number n m s t x y h k e =
    sym (from_le_bytes-to_le_bytes_2 n h) ∙ ap (λ (l : List ℕ). from_le_bytes w16 (take 2 (drop 1 l))) e
    ∙ from_le_bytes-to_le_bytes_2 m k

headed-size : (n m s t : ℕ) (x y : List ℕ) → s < 2 ^ 32 → t < 2 ^ 32 → headed n s x ≡ headed m t y → s ≡ t
headed-size n m s t x y h k e =
    sym (from_le_bytes-to_le_bytes_4 s h) ∙ ap (λ (l : List ℕ). from_le_bytes w32 (take 4 (drop 3 l))) e
    ∙ from_le_bytes-to_le_bytes_4 t k

headed-rest : (n m s t : ℕ) (x y : List ℕ) → headed n s x ≡ headed m t y → x ≡ y
headed-rest n m s t x y e = ap (λ (l : List ℕ). drop 8 l) e

pub front-same : (a b x y : List ℕ) → length a ≡ length b → a ++ x ≡ b ++ y → a ≡ b
front-same a b x y l e =
    sym (take_at a x (length a) refl) ∙ ap (λ (t : List ℕ). take (length a) t) e ∙ take_at b y (length a) (sym l)

pub same-Frame : (frame other : Frame) → frame.number ≡ other.number → frame.body ≡ other.body → frame ≡ other
same-Frame frame other n b =
    ap (λ (k : ℕ). let made : Frame = record { number = k; body = frame.body } in made) n
    ∙ ap (λ (t : List ℕ). let made : Frame = record { number = other.number; body = t } in made) b

pub small_body : (frame : Frame) → IsFrame frame → length frame.body < 2 ^ 32
small_body frame valid = omega (arith, valid.body)

-- what stands before the check tells the frame
pub same_from_unchecked : (frame other : Frame) (x y : List ℕ) → IsFrame frame → IsFrame other
    → unchecked frame ++ x ≡ unchecked other ++ y → (frame ≡ other) × (x ≡ y)
same_from_unchecked frame other x y f o e =
    let h : headed frame.number (length frame.body) (frame.body ++ x)
    ≡ headed other.number (length other.body) (other.body ++ y) =
    ap (λ (t : List ℕ). t ++ x) (sym (unchecked-headed frame)) ∙ e ∙ ap (λ (t : List ℕ). t ++ y) (unchecked-headed other) in
    let rest = headed-rest _ _ _ _ _ _ h in
    let sizes = headed-size _ _ _ _ _ _ (small_body frame f) (small_body other o) h in
    let same = same-Frame frame other (headed-number _ _ _ _ _ _ f.number o.number h) (front-same _ _ x y sizes rest) in
    (same, append_cancel_left (unchecked other) x y (ap (λ (g : Frame). unchecked g ++ x) (sym same) ∙ e))

-- no frame begins another
pub same_front : (frame other : Frame) (x y : List ℕ) → IsFrame frame → IsFrame other
    → bytes_of frame ++ x ≡ bytes_of other ++ y → (frame ≡ other) × (x ≡ y)
same_front frame other x y f o e =
    let parts : (g : Frame) (t : List ℕ) → bytes_of g ++ t ≡ unchecked g ++ (check_bytes g ++ t) =
    λ g t. ap (λ (s : List ℕ). s ++ t) (bytes_of-unchecked g) ∙ append_assoc (unchecked g) (check_bytes g) t in
    let same = (same_from_unchecked frame other _ _ f o (sym (parts frame x) ∙ e ∙ parts other y)).0 in
    (same, append_cancel_left (bytes_of other) x y (ap (λ (g : Frame). bytes_of g ++ x) (sym same) ∙ e))

-- one frame at most begins the bytes
pub same_begins : (x after behind : List ℕ) (frame other : Frame) → Begins frame x after → Begins other x behind
    → (frame ≡ other) × (after ≡ behind)
same_begins x after behind frame other f o = same_front frame other after behind f.valid o.valid (sym f.split ∙ o.split)

IsBytes-headed : (number size : ℕ) (rest : List ℕ) → IsBytes rest → IsBytes (headed number size rest)
IsBytes-headed number size rest b =
    let number_bytes : IsBytes (to_le_bytes w16 number) = IsBytes-two _ _ (omega arith) (omega arith) in
    let size_bytes : IsBytes (to_le_bytes w32 size) =
    IsBytes-four _ _ _ _ (omega arith) (omega arith) (omega arith) (omega arith) in
    let tail : IsBytes (to_le_bytes w32 size ++ 0x0E ∷ rest) =
    IsBytes-append (to_le_bytes w32 size) (0x0E ∷ rest) size_bytes (IsBytes-cons 0x0E rest (omega arith) b) in
    IsBytes-cons 0x1B (to_le_bytes w16 number ++ (to_le_bytes w32 size ++ 0x0E ∷ rest)) (omega arith)
    (IsBytes-append (to_le_bytes w16 number) (to_le_bytes w32 size ++ 0x0E ∷ rest) number_bytes tail)

pub IsBytes-bytes_of : (frame : Frame) → IsFrame frame → IsBytes (bytes_of frame)
IsBytes-bytes_of frame valid =
    IsBytes-along (headed frame.number (length frame.body) (frame.body ++ check_bytes frame)) (bytes_of frame) (sym (bytes_of-headed frame))
    (IsBytes-headed frame.number (length frame.body) (frame.body ++ check_bytes frame)
    (IsBytes-append frame.body (check_bytes frame) valid.bytes (IsBytes-two _ _ (omega arith) (omega arith))))
