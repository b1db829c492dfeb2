-- The check is linear: what differs ahead of some bytes comes through them as through zeros.
use Rattle.std.proofs.Common.{◌≡◌, ℕ, zero, suc, ◌+◌, ◌*◌, ◌/◌, ◌%◌, ◌<◌, List, [], ◌∷◌, ◌++◌, length, fold, bit_xor, refl, sym, ap, ap₂, ◌∙◌, inl, inr, arith}
use Rattle.std.specs.Int.Bits.{xor_assoc, xor_self, xor_zero_r}
use Rattle.std.proofs.lemmas.Nat.{xor_comm, xor_shr, xor_mod}
use Rattle.std.proofs.lemmas.Bool.{cases_eq}
use Rattle.std.proofs.lemmas.List.Sums.{fold-append}
use Rattle.line_spec.specs.Check.{shifted, shifted_times, checked, check}
use Rattle.ice_frame.specs.Zeros.{over_zeros}

-- of four numbers the middle ones change places
xor_middle : (a b c d : ℕ) → bit_xor (bit_xor a b) (bit_xor c d) ≡ bit_xor (bit_xor a c) (bit_xor b d)
xor_middle a b c d =
    xor_assoc a b (bit_xor c d) ∙ ap (λ (n : ℕ). bit_xor a n) (sym (xor_assoc b c d)
    ∙ ap (λ (n : ℕ). bit_xor n d) (xor_comm b c) ∙ xor_assoc c b d)
    ∙ sym (xor_assoc a c (bit_xor b d))

-- the last of three numbers goes to the second place
xor_last : (a b c : ℕ) → bit_xor (bit_xor a b) c ≡ bit_xor (bit_xor a c) b
xor_last a b c = xor_assoc a b c ∙ ap (λ (n : ℕ). bit_xor a n) (xor_comm b c) ∙ sym (xor_assoc a c b)

-- a number over two others is gone
xor_twice : (a b : ℕ) → bit_xor (bit_xor a b) b ≡ a
xor_twice a b = xor_assoc a b b ∙ ap (λ (n : ℕ). bit_xor a n) (xor_self b) ∙ xor_zero_r a

-- one bit, without a case
shifted_is : (r : ℕ) → shifted r ≡ bit_xor (r / 2) (r % 2 * 0x8408)
shifted_is r =
    elim (cases_eq (r % 2) 0) [
      | inl even ↦ rw even (sym (xor_zero_r (r / 2)))
      | inr odd ↦ (let one : r % 2 ≡ 1 = omega (arith, odd) in rw one refl)
    ]

low_xor : (a b : ℕ) → a < 2 → b < 2 → bit_xor (a * 0x8408) (b * 0x8408) ≡ bit_xor a b * 0x8408
low_xor zero zero h k = refl
low_xor zero (suc zero) h k = refl
low_xor (suc zero) zero h k = refl
low_xor (suc zero) (suc zero) h k = refl
low_xor (suc (suc a)) b h k = absurd (omega (arith, h))
low_xor zero (suc (suc b)) h k = absurd (omega (arith, k))
low_xor (suc zero) (suc (suc b)) h k = absurd (omega (arith, k))

shifted_xor : (a b : ℕ) → shifted (bit_xor a b) ≡ bit_xor (shifted a) (shifted b)
shifted_xor a b =
    shifted_is (bit_xor a b) ∙ ap₂ (λ (n m : ℕ). bit_xor n (m * 0x8408)) (xor_shr a b 1) (xor_mod a b 1)
    ∙ ap (λ (n : ℕ). bit_xor (bit_xor (a / 2) (b / 2)) n) (sym (low_xor (a % 2) (b % 2) (omega arith) (omega arith)))
    ∙ xor_middle (a / 2) (b / 2) (a % 2 * 0x8408) (b % 2 * 0x8408)
    ∙ ap₂ (λ (n m : ℕ). bit_xor n m) (sym (shifted_is a)) (sym (shifted_is b))

shifted_times_xor : (n a b : ℕ) → shifted_times n (bit_xor a b) ≡ bit_xor (shifted_times n a) (shifted_times n b)
shifted_times_xor zero a b = refl
shifted_times_xor (suc n) a b = ap (λ (r : ℕ). shifted r) (shifted_times_xor n a b) ∙ shifted_xor (shifted_times n a) (shifted_times n b)

checked_xor : (a b byte : ℕ) → checked (bit_xor a b) byte ≡ bit_xor (checked a byte) (checked b 0)
unfolding checked
checked_xor a b byte =
    ap (λ (r : ℕ). shifted_times 8 r) (xor_last a b byte) ∙ shifted_times_xor 8 (bit_xor a byte) b
    ∙ ap (λ (r : ℕ). bit_xor (shifted_times 8 (bit_xor a byte)) (shifted_times 8 r)) (sym (xor_zero_r b))

checked_zero : checked 0 0 ≡ 0
unfolding checked
checked_zero = refl

pub over_zeros_xor : (n a b : ℕ) → over_zeros n (bit_xor a b) ≡ bit_xor (over_zeros n a) (over_zeros n b)
unfolding over_zeros
over_zeros_xor zero a b = refl
over_zeros_xor (suc n) a b = ap (λ (r : ℕ). over_zeros n r) (checked_xor a b 0) ∙ over_zeros_xor n (checked a 0) (checked b 0)

fold_xor : (bytes : List ℕ) (a b : ℕ) → fold checked (bit_xor a b) bytes ≡ bit_xor (fold checked a bytes) (over_zeros (length bytes) b)
unfolding over_zeros
fold_xor [] a b = refl
fold_xor (byte ∷ bytes) a b =
    ap (λ (r : ℕ). fold checked r bytes) (checked_xor a b byte) ∙ fold_xor bytes (checked a byte) (checked b 0)

-- so many zeros, and then more
pub over_zeros_sum : (n m r : ℕ) → over_zeros (n + m) r ≡ over_zeros m (over_zeros n r)
unfolding over_zeros
over_zeros_sum zero m r = let same : 0 + m ≡ m = omega arith in ap (λ (k : ℕ). over_zeros k r) same
over_zeros_sum (suc n) m r =
    let same : suc n + m ≡ suc (n + m) = omega arith in ap (λ (k : ℕ). over_zeros k r) same ∙ over_zeros_sum n m (checked r 0)

pub over_zeros_one : (r : ℕ) → over_zeros 1 r ≡ checked r 0
unfolding over_zeros
over_zeros_one r = refl

pub over_no_zeros : (r : ℕ) → over_zeros 0 r ≡ r
unfolding over_zeros
over_no_zeros r = refl

-- the check of the bytes behind others
pub check_behind : (front bytes : List ℕ)
    → check bytes ≡ bit_xor (check (front ++ bytes)) (over_zeros (length bytes) (bit_xor (check front) 0xFFFF))
unfolding check
check_behind front bytes =
    let start : ℕ = check front in
    let other : ℕ = over_zeros (length bytes) (bit_xor start 0xFFFF) in
    let apart : bit_xor 0xFFFF (bit_xor start 0xFFFF) ≡ start = xor_comm 0xFFFF (bit_xor start 0xFFFF) ∙ xor_twice start 0xFFFF in
    let all : check (front ++ bytes) ≡ bit_xor (check bytes) other =
    fold-append checked 0xFFFF front bytes ∙ ap (λ (r : ℕ). fold checked r bytes) (sym apart)
    ∙ fold_xor bytes 0xFFFF (bit_xor start 0xFFFF) in
    sym (ap (λ (r : ℕ). bit_xor r other) all ∙ xor_twice (check bytes) other)
