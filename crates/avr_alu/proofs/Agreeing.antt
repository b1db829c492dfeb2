-- The bit formulas of carries, and tests over every pair of bytes with and without one.
use Rattle.std.proofs.Common.{◌≡◌, ℕ, zero, suc, ◌<◌, Bool, true, false, not, nat_eq, bit_and, bit_xor, arith, refl}
use Rattle.avr_spec.proofs.Computing.{all_pairs, at_pairs}

-- the bits of a mask that a number has are not all 0
abbrev pub masked : ℕ → ℕ → Bool
masked number mask = not (nat_eq (bit_and number mask) 0)

-- the bits of a result into which a carry came
abbrev pub carried : ℕ → ℕ → ℕ → ℕ
carried a b wide = bit_xor (bit_xor a b) wide

-- two truth values are the same
abbrev pub agree : Bool → Bool → Bool
agree true b = b
agree false b = not b

pub agreed : (a b : Bool) → agree a b ≡ true → a ≡ b
agreed true true e = refl
agreed true false e = cc
agreed false true e = cc
agreed false false e = refl

-- what holds of all pairs of bytes without a carry, and with one, holds with any carry
pub at_carries : (p : ℕ → ℕ → ℕ → Bool) → all_pairs 256 256 (p 0) ≡ true → all_pairs 256 256 (p 1) ≡ true →
    (c a b : ℕ) → c < 2 → a < 256 → b < 256 → p c a b ≡ true
at_carries p none one zero a b low ha hb = at_pairs 256 256 (p 0) none a b ha hb
at_carries p none one (suc zero) a b low ha hb = at_pairs 256 256 (p 1) one a b ha hb
at_carries p none one (suc (suc n)) a b low ha hb = absurd (omega arith)

-- the parts of a test in three parts, each of which waits for the one before
pub all_three : (a b c : Bool) → (elim a [ true ↦ elim b [ true ↦ c | false ↦ false ] | false ↦ false ]) ≡ true →
    (a ≡ true) × (b ≡ true) × (c ≡ true)
all_three true true c e = (refl, refl, e)
all_three true false c e = cc
all_three false b c e = cc
