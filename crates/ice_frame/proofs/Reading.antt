-- The tests of the code are those that tell what stands at the front.
use Rattle.std.proofs.Common.{◌≡◌, ℕ, ◌+◌, ◌≤◌, List, length, get_or, take, sym, ap, ◌∙◌, subst₂, arith}
use Rattle.std.specs.Int.{w16, to_le_bytes}
use Rattle.line_spec.specs.Check.{check}
use Rattle.line_spec.specs.Frames.{IsBytes}
use Rattle.line_spec.proofs.Fronts.{HasHeader, HasBody, HasCheck, shown_size, shown_check}

-- start, size and token as the code reads them
pub header_read : (x : List ℕ) (first size token : ℕ) → first ≡ get_or x 0 0x1B → first ≡ 0x1B → size ≡ shown_size x → size ≤ 4106
    → token ≡ get_or x 7 0x0E → token ≡ 0x0E → HasHeader x
header_read x first size token a b c d e f = record {
  start = sym a ∙ b;
  size = omega arith;
  token = sym e ∙ f;
}

pub body_read : (x : List ℕ) (size : ℕ) → IsBytes x → HasHeader x → size ≡ shown_size x → 8 + size ≤ length x → HasBody x
body_read x size b h e enough = record { bytes = b; header = h; enough = omega arith }

-- the two bytes of the check as the code computes them
pub two_read : (x : List ℕ) (size sum : ℕ) (two : List ℕ) → size ≡ shown_size x → sum ≡ check (take (8 + size) x)
    → two ≡ to_le_bytes w16 sum → two ≡ to_le_bytes w16 (shown_check x)
two_read x size sum two e s t =
    t ∙ ap (λ (k : ℕ). to_le_bytes w16 k) (s ∙ ap (λ (k : ℕ). check (take (8 + k) x)) e)

-- a test of one of them, at the place where the code makes it
pub same_test : (x a b : List ℕ) (k m i : ℕ) → k ≡ m → a ≡ b → get_or x k (get_or a i 0) ≡ get_or a i 0
    → get_or x m (get_or b i 0) ≡ get_or b i 0
same_test x a b k m i e f t =
    let P : ℕ → List ℕ → Type 0 = λ n l. get_or x n (get_or l i 0) ≡ get_or l i 0 in subst₂ P e f t

pub check_read : (x two : List ℕ) (size low high : ℕ) → HasBody x → size ≡ shown_size x → two ≡ to_le_bytes w16 (shown_check x)
    → low ≡ get_or x (8 + size) (get_or two 0 0) → low ≡ get_or two 0 0
    → high ≡ get_or x (8 + size + 1) (get_or two 1 0) → high ≡ get_or two 1 0 → HasCheck x
check_read x two size low high h e t a b c d = record {
  body = h;
  low = same_test x two (to_le_bytes w16 (shown_check x)) (8 + size) (8 + shown_size x) 0 (omega arith) t (sym a ∙ b);
  high = same_test x two (to_le_bytes w16 (shown_check x)) (8 + size + 1) (9 + shown_size x) 1 (omega arith) t (sym c ∙ d);
}
