-- Lists whose numbers are bytes.
use Rattle.std.proofs.Common.{◌≡◌, ℕ, ◌&&◌, nat_lt, Bool, true, false, List, [], ◌∷◌, refl}
use Rattle.std.proofs.lemmas.Bool.{ltb-true}
use Rattle.std.specs.List.{list_all}
use Rattle.line_spec.specs.Frames.{IsBytes}
use Rattle.line_spec.proofs.Bytes.{IsBytes-nil, IsBytes-cons}

abbrev pub is_byte : ℕ → Bool
is_byte n = nat_lt n 256

first_of : (a b : Bool) → (a && b) ≡ true → a ≡ true
first_of true b h = refl
first_of false b h = h

second_of : (a b : Bool) → (a && b) ≡ true → b ≡ true
second_of true b h = h
second_of false b h = cc

-- each is tested
pub are_bytes : (xs : List ℕ) → list_all is_byte xs ≡ true → IsBytes xs
are_bytes [] h = IsBytes-nil
are_bytes (x ∷ xs) h =
    let rest : list_all is_byte xs ≡ true = second_of (is_byte x) (list_all is_byte xs) h in
    let low : is_byte x ≡ true = first_of (is_byte x) (list_all is_byte xs) h in
    IsBytes-cons x xs (ltb-true x 256 low) (are_bytes xs rest)
