-- Bytes in hexadecimal digits.
use Rattle.std.proofs.Common.{◌≡◌, ℕ, ◌+◌, ◌<◌, List, [], ◌∷◌, ◌++◌, length, get_or, take, refl, ap, ◌∙◌, arith}
use Rattle.std.proofs.lemmas.Grind.{common_steps}
use Rattle.hex.specs.Hex.{encode_lower, encode_with}

take-next : (bytes : List ℕ) (i : ℕ) → i < length bytes → take (i + 1) bytes ≡ take i bytes ++ get_or bytes i 0 ∷ []
take-next bytes i inside = grind (arith, common_steps)

-- behind one another
pub encode_lower-append : (bytes more : List ℕ) → encode_lower (bytes ++ more) ≡ encode_lower bytes ++ encode_lower more
unfolding encode_with
encode_lower-append [] more = refl
encode_lower-append (byte ∷ bytes) more = ap (λ (digits : List ℕ). encode_lower (byte ∷ []) ++ digits) (encode_lower-append bytes more)

pub encode_lower-nil : encode_lower [] ≡ []
unfolding encode_with
encode_lower-nil = refl

-- one byte more
pub encode_lower-more : (bytes : List ℕ) (i : ℕ) → i < length bytes
    → encode_lower (take (i + 1) bytes) ≡ encode_lower (take i bytes) ++ encode_lower (get_or bytes i 0 ∷ [])
encode_lower-more bytes i inside =
    ap encode_lower (take-next bytes i inside) ∙ encode_lower-append (take i bytes) (get_or bytes i 0 ∷ [])
