-- The number and the body of a frame that stands at the front of a ring, read from its two slices.
use Rattle.std.proofs.Common.{◌≡◌, ℕ, zero, suc, ◌+◌, ◌-◌, ◌≤◌, List, [], ◌∷◌, ◌++◌, length, get_or, take, drop, sym, subst, ap, ap₂, ◌∙◌, append_assoc, length-append, length-drop, length-take, arith}
use Rattle.std.specs.Int.{w16, from_le_bytes}
use Rattle.std.proofs.lemmas.List.{take_at}
use Rattle.std.proofs.lemmas.Nat.{from_le_bytes-to_le_bytes_2}
use Rattle.line_spec.specs.Frames.{Frame, Begins, unchecked, bytes_of}
use Rattle.line_spec.proofs.FrameBytes.{bytes_of-headed, bytes_of-unchecked, check_bytes, length-bytes_of, length-unchecked, same-Frame, unchecked-headed}
use Rattle.ice_recv.specs.Receiving.{StandsAt}

none_left : (n : ℕ) → 0 - n ≡ 0
none_left n = omega arith

none_less : (n : ℕ) → n ≡ n - 0
none_less n = omega arith

one_less : (n k : ℕ) → suc n - suc k ≡ n - k
one_less n k = omega arith

-- a part of two lists, one behind the other
take_both : (n : ℕ) (x y : List ℕ) → take n (x ++ y) ≡ take n x ++ take (n - length x) y
take_both zero x y = ap (λ (k : ℕ). take k y) (sym (none_left (length x)))
take_both (suc n) [] y = ap (λ (k : ℕ). take k y) (none_less (suc n))
take_both (suc n) (a ∷ x) y = ap (λ (t : List ℕ). a ∷ t) (take_both n x y ∙ ap (λ (k : ℕ). take n x ++ take k y) (sym (one_less n (length x))))

drop_both : (n : ℕ) (x y : List ℕ) → drop n (x ++ y) ≡ drop n x ++ drop (n - length x) y
drop_both zero x y = ap (λ (k : ℕ). x ++ drop k y) (sym (none_left (length x)))
drop_both (suc n) [] y = ap (λ (k : ℕ). drop k y) (none_less (suc n))
drop_both (suc n) (a ∷ x) y = drop_both n x y ∙ ap (λ (k : ℕ). drop n x ++ drop k y) (sym (one_less n (length x)))

-- the size is that of the frame
pub stands_size : (held : List ℕ) (size : ℕ) → (s : StandsAt size held) → size ≡ 10 + length s.0.body
stands_size held size s =
    omega (arith, ap length s.1.split, length-append (bytes_of s.0) (drop size held), length-bytes_of s.0, length-drop size held, s.2)

-- the bytes between the header and the check are the body
pub body_at : (held : List ℕ) (size : ℕ) → (s : StandsAt size held) → drop 8 (take (size - 2) held) ≡ s.0.body
body_at held size s =
    let ends : length (unchecked s.0) ≡ size - 2 = omega (arith, stands_size held size s, length-unchecked s.0) in
    let tail : List ℕ = check_bytes s.0 ++ drop size held in
    let split : held ≡ unchecked s.0 ++ tail =
    s.1.split ∙ ap (λ (t : List ℕ). t ++ drop size held) (bytes_of-unchecked s.0) ∙ append_assoc (unchecked s.0) (check_bytes s.0) (drop size held) in
    ap (λ (t : List ℕ). drop 8 (take (size - 2) t)) split
    ∙ ap (λ (t : List ℕ). drop 8 t) (take_at (unchecked s.0) tail (size - 2) ends ∙ unchecked-headed s.0)

pub number_at : (held : List ℕ) (size : ℕ) → (s : StandsAt size held) → from_le_bytes w16 (get_or held 1 0 ∷ get_or held 2 0 ∷ []) ≡ s.0.number
number_at held size s =
    let split = s.1.split ∙ ap (λ (t : List ℕ). t ++ drop size held) (bytes_of-headed s.0) in
    ap (λ (t : List ℕ). from_le_bytes w16 (get_or t 1 0 ∷ get_or t 2 0 ∷ [])) split
    ∙ from_le_bytes-to_le_bytes_2 s.0.number s.1.valid.number

-- the body from two slices, as the code reads it
pub body_in_slices : (held x y none one p q : List ℕ) (end first second : ℕ) → 8 ≤ end → x ++ y ≡ held → none ≡ [] → p ≡ drop 8 (take end x)
    → q ≡ drop first (take second y) → first ≡ 8 - length x → second ≡ end - length x → one ≡ none ++ p → one ++ q ≡ drop 8 (take end held)
body_in_slices held x y none one p q end first second most joined n pe qe f s o =
    let from : 8 - length (take end x) ≡ first = omega (arith, f, most, length-take end x) in
    let front : one ≡ drop 8 (take end x) = o ∙ ap (λ (t : List ℕ). t ++ p) n ∙ pe in
    ap₂ (λ (t u : List ℕ). t ++ u) front qe
    ∙ sym (ap (λ (t : List ℕ). drop 8 (take end t)) (sym joined) ∙ ap (λ (t : List ℕ). drop 8 t) (take_both end x y)
    ∙ drop_both 8 (take end x) (take (end - length x) y)
    ∙ ap₂ (λ (k m : ℕ). drop 8 (take end x) ++ drop k (take m y)) from (sym s))

pub read_frame : (held : List ℕ) (size number : ℕ) (body : List ℕ) → (s : StandsAt size held)
    → number ≡ from_le_bytes w16 (get_or held 1 0 ∷ get_or held 2 0 ∷ []) → body ≡ drop 8 (take (size - 2) held)
    → Begins (let frame : Frame = record { number = number; body = body } in frame) held (drop size held)
read_frame held size number body s n b =
    let same = same-Frame (let frame : Frame = record { number = number; body = body } in frame) s.0 (n ∙ number_at held size s) (b ∙ body_at held size s) in
    let P : Frame → Type 0 = λ f. Begins f held (drop size held) in
    subst P (sym same) s.1
