-- Bytes in hexadecimal digits.
use Rattle.std.proofs.Common.{◌≡◌, ℕ, List, [], ◌∷◌, ◌++◌, length, take, drop, refl, sym, ap, ◌∙◌, append_assoc}
use Rattle.hex.specs.Hex.{encode_lower, encode_with}

-- behind one another
pub encode_lower-append : (bytes more : List ℕ) → encode_lower (bytes ++ more) ≡ encode_lower bytes ++ encode_lower more
unfolding encode_with
encode_lower-append [] more = refl
encode_lower-append (byte ∷ bytes) more = ap (λ (digits : List ℕ). encode_lower (byte ∷ []) ++ digits) (encode_lower-append bytes more)

pub encode_lower-nil : encode_lower [] ≡ []
unfolding encode_with
encode_lower-nil = refl
