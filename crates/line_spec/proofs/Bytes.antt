-- Parts of a list of bytes are bytes.
use Rattle.std.proofs.Common.{◌≡◌, ℕ, zero, suc, ◌<◌, List, [], ◌∷◌, ◌++◌, get_or, take, drop, replicate, ◌+◌, sym, subst, arith}
use Rattle.std.proofs.Common.{get_or-drop}
use Rattle.line_spec.specs.Frames.{IsBytes}

pub IsBytes-nil : IsBytes []
IsBytes-nil i = omega arith

pub IsBytes-cons : (x : ℕ) (xs : List ℕ) → x < 256 → IsBytes xs → IsBytes (x ∷ xs)
IsBytes-cons x xs h b zero = h
IsBytes-cons x xs h b (suc i) = b i

pub IsBytes-append : (xs ys : List ℕ) → IsBytes xs → IsBytes ys → IsBytes (xs ++ ys)
IsBytes-append [] ys b c i = c i
IsBytes-append (x ∷ xs) ys b c zero = b zero
IsBytes-append (x ∷ xs) ys b c (suc i) = IsBytes-append xs ys (λ j. b (suc j)) c i

pub IsBytes-left : (xs ys : List ℕ) → IsBytes (xs ++ ys) → IsBytes xs
IsBytes-left [] ys b i = omega arith
IsBytes-left (x ∷ xs) ys b zero = b zero
IsBytes-left (x ∷ xs) ys b (suc i) = IsBytes-left xs ys (λ j. b (suc j)) i

pub IsBytes-right : (xs ys : List ℕ) → IsBytes (xs ++ ys) → IsBytes ys
IsBytes-right [] ys b i = b i
IsBytes-right (x ∷ xs) ys b i = IsBytes-right xs ys (λ j. b (suc j)) i

pub IsBytes-take : (n : ℕ) (xs : List ℕ) → IsBytes xs → IsBytes (take n xs)
IsBytes-take zero xs b i = omega arith
IsBytes-take (suc n) [] b i = omega arith
IsBytes-take (suc n) (x ∷ xs) b zero = b zero
IsBytes-take (suc n) (x ∷ xs) b (suc i) = IsBytes-take n xs (λ j. b (suc j)) i

pub IsBytes-drop : (n : ℕ) (xs : List ℕ) → IsBytes xs → IsBytes (drop n xs)
IsBytes-drop n xs b i = let P : ℕ → Type 0 = λ x. x < 256 in subst P (sym (get_or-drop n xs i 0)) (b (n + i))

pub IsBytes-zeros : (n : ℕ) → IsBytes (replicate n 0)
IsBytes-zeros zero i = omega arith
IsBytes-zeros (suc n) zero = omega arith
IsBytes-zeros (suc n) (suc i) = IsBytes-zeros n i

pub IsBytes-along : (xs ys : List ℕ) → xs ≡ ys → IsBytes xs → IsBytes ys
IsBytes-along xs ys e b = let P : List ℕ → Type 0 = λ t. IsBytes t in subst P e b

-- one byte read, also a missing one that is read as another byte
pub byte_at_or : (xs : List ℕ) (i d : ℕ) → IsBytes xs → d < 256 → get_or xs i d < 256
byte_at_or [] i d b h = h
byte_at_or (x ∷ xs) zero d b h = b zero
byte_at_or (x ∷ xs) (suc i) d b h = byte_at_or xs i d (λ j. b (suc j)) h

pub IsBytes-two : (a b : ℕ) → a < 256 → b < 256 → IsBytes (a ∷ b ∷ [])
IsBytes-two a b h k = IsBytes-cons a (b ∷ []) h (IsBytes-cons b [] k IsBytes-nil)

pub IsBytes-four : (a b c d : ℕ) → a < 256 → b < 256 → c < 256 → d < 256 → IsBytes (a ∷ b ∷ c ∷ d ∷ [])
IsBytes-four a b c d h i j k = IsBytes-cons a (b ∷ c ∷ d ∷ []) h (IsBytes-cons b (c ∷ d ∷ []) i (IsBytes-two c d j k))
