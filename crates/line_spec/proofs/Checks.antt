-- The frame check stays within two bytes.
use Rattle.std.proofs.Common.{ℕ, zero, suc, ◌/◌, ◌%◌, ◌==◌, ◌<◌, ◌^◌, true, false, if◌then◌else◌, bit_xor, List, [], ◌∷◌, fold, arith}
use Rattle.std.proofs.lemmas.Nat.{xor_lt}
use Rattle.line_spec.specs.Check.{shifted, shifted_times, checked, check}
use Rattle.line_spec.specs.Frames.{IsBytes}

shifted-below : (r : ℕ) → r < 2 ^ 16 → shifted r < 2 ^ 16
shifted-below r h =
    let halved : r / 2 < 2 ^ 16 = omega arith in
    elim (r % 2 == 0) as (λ b. (if b then r / 2 else bit_xor (r / 2) 0x8408) < 2 ^ 16)
    [ true ↦ halved | false ↦ xor_lt 16 (r / 2) 0x8408 halved (omega arith) ]

shifted_times-below : (n r : ℕ) → r < 2 ^ 16 → shifted_times n r < 2 ^ 16
shifted_times-below zero r h = h
shifted_times-below (suc n) r h = shifted-below (shifted_times n r) (shifted_times-below n r h)

pub checked-below : (r byte : ℕ) → r < 2 ^ 16 → byte < 256 → checked r byte < 2 ^ 16
unfolding checked
checked-below r byte h b = shifted_times-below 8 (bit_xor r byte) (xor_lt 16 r byte h (omega arith))

fold-below : (bytes : List ℕ) (r : ℕ) → IsBytes bytes → r < 2 ^ 16 → fold checked r bytes < 2 ^ 16
fold-below [] r b h = h
fold-below (x ∷ xs) r b h = fold-below xs (checked r x) (λ i. b (suc i)) (checked-below r x h (b zero))

-- the check of bytes has two bytes
pub check-below : (bytes : List ℕ) → IsBytes bytes → check bytes < 2 ^ 16
unfolding check
check-below bytes b = fold-below bytes 0xFFFF b (omega arith)
