-- The table of nibbles after 64 zero bytes, by computing each entry.
use Rattle.std.proofs.Common.{◌≡◌, ◌==◌, ◌&&◌, ℕ, zero, suc, ◌+◌, ◌*◌, ◌/◌, ◌%◌, ◌<◌, ◌^◌, Bool, true, List, [], ◌∷◌, length, get_or, bit_xor, refl, sym, ap, ap₂, ◌∙◌, subst, arith, eqb-true}
use Rattle.std.specs.Int.Bits.{xor_shifted}
use Rattle.std.proofs.lemmas.Bool.{and_parts}
use Rattle.std.proofs.lemmas.Nat.{xor_comm}
use Rattle.line_spec.specs.Check.{checked}
use Rattle.ice_frame.specs.Zeros.{over_zeros}
use Rattle.ice_frame.specs.declared.behind.TheConstants.{BLOCK}
use Rattle.ice_frame.proofs.Linear.{over_zeros_xor}

-- the nibble at its place
nibble : ℕ → ℕ
nibble n = n % 16 * 16 ^ (n / 16)

are_after : ℕ → List ℕ → Bool
are_after n [] = true
are_after n (entry ∷ entries) = (over_zeros 64 (nibble n) == entry) && are_after (suc n) entries

block_after : are_after 0 BLOCK ≡ true
unfolding over_zeros checked are_after nibble
block_after = refl

entry_after : (n : ℕ) (entries : List ℕ) (i k : ℕ) → are_after n entries ≡ true → i < length entries → k ≡ n + i
    → over_zeros 64 (nibble k) ≡ get_or entries i 0
unfolding are_after
entry_after n [] i k e h same = absurd (omega arith)
entry_after n (entry ∷ entries) zero k e h same =
    let P : ℕ → Type 0 = λ m. over_zeros 64 (nibble m) ≡ entry in
    let back : n ≡ k = omega arith in
    subst P back (eqb-true (over_zeros 64 (nibble n)) entry (and_parts _ _ e).0)
entry_after n (entry ∷ entries) (suc i) k e h same = entry_after (suc n) entries i k (and_parts _ _ e).1 (omega arith) (omega arith)

-- the entry of a nibble at one of the four places
entry_at : (k value : ℕ) → k < 64 → nibble k ≡ value → get_or BLOCK k 0 ≡ over_zeros 64 value
entry_at k value h e = sym (entry_after 0 BLOCK k k block_after h (omega arith)) ∙ ap (λ (r : ℕ). over_zeros 64 r) e

nibble_at : (k n place : ℕ) → n < 16 → k ≡ n + 16 * place → nibble k ≡ n * 16 ^ place
unfolding nibble
nibble_at k n place h e =
    let low : k % 16 ≡ n = omega (arith, h, e) in
    let high : k / 16 ≡ place = omega (arith, h, e) in
    ap₂ (λ (a b : ℕ). a * 16 ^ b) low high

nibbles : (r : ℕ) → r < 2 ^ 16
    → bit_xor (bit_xor (bit_xor (r % 16) (r / 16 % 16 * 16)) (r / 256 % 16 * 256)) (r / 4096 * 4096) ≡ r
nibbles r h =
    let two : bit_xor (r % 16) (r / 16 % 16 * 16) ≡ r % 256 =
    xor_comm (r % 16) (r / 16 % 16 * 16) ∙ xor_shifted (r / 16 % 16) 4 (r % 16) (omega arith) ∙ omega arith in
    let three : bit_xor (r % 256) (r / 256 % 16 * 256) ≡ r % 4096 =
    xor_comm (r % 256) (r / 256 % 16 * 256) ∙ xor_shifted (r / 256 % 16) 8 (r % 256) (omega arith) ∙ omega arith in
    let four : bit_xor (r % 4096) (r / 4096 * 4096) ≡ r =
    xor_comm (r % 4096) (r / 4096 * 4096) ∙ xor_shifted (r / 4096) 12 (r % 4096) (omega arith) ∙ omega arith in
    ap (λ (n : ℕ). bit_xor (bit_xor n (r / 256 % 16 * 256)) (r / 4096 * 4096)) two
    ∙ ap (λ (n : ℕ). bit_xor n (r / 4096 * 4096)) three ∙ four

-- the register after 64 zero bytes, as the code reads the table
pub over_block : (r a b c d : ℕ) → r < 2 ^ 16 → a ≡ r % 16 → b ≡ r / 16 % 16 → c ≡ r / 256 % 16 → d ≡ r / 4096
    → bit_xor (bit_xor (bit_xor (get_or BLOCK a 0) (get_or BLOCK (b + 16) 0)) (get_or BLOCK (c + 32) 0)) (get_or BLOCK (d + 48) 0)
    ≡ over_zeros 64 r
over_block r a b c d h p q s t =
    let first : get_or BLOCK a 0 ≡ over_zeros 64 (r % 16) =
    entry_at a (r % 16) (omega (arith, p)) (nibble_at a (r % 16) 0 (omega arith) (omega (arith, p)) ∙ omega arith) in
    let second : get_or BLOCK (b + 16) 0 ≡ over_zeros 64 (r / 16 % 16 * 16) =
    entry_at (b + 16) (r / 16 % 16 * 16) (omega (arith, q)) (nibble_at (b + 16) (r / 16 % 16) 1 (omega arith) (omega (arith, q))) in
    let third : get_or BLOCK (c + 32) 0 ≡ over_zeros 64 (r / 256 % 16 * 256) =
    entry_at (c + 32) (r / 256 % 16 * 256) (omega (arith, s)) (nibble_at (c + 32) (r / 256 % 16) 2 (omega arith) (omega (arith, s))) in
    let fourth : get_or BLOCK (d + 48) 0 ≡ over_zeros 64 (r / 4096 * 4096) =
    entry_at (d + 48) (r / 4096 * 4096) (omega (arith, t, h)) (nibble_at (d + 48) (r / 4096) 3 (omega (arith, h)) (omega (arith, t))) in
    let one : ℕ = r % 16 in
    let two : ℕ = r / 16 % 16 * 16 in
    let three : ℕ = r / 256 % 16 * 256 in
    let four : ℕ = r / 4096 * 4096 in
    ap₂ (λ (n m : ℕ). bit_xor (bit_xor (bit_xor n m) (get_or BLOCK (c + 32) 0)) (get_or BLOCK (d + 48) 0)) first second
    ∙ ap₂ (λ (n m : ℕ). bit_xor (bit_xor (bit_xor (over_zeros 64 one) (over_zeros 64 two)) n) m) third fourth
    ∙ sym (over_zeros_xor 64 (bit_xor (bit_xor one two) three) four
    ∙ ap (λ (n : ℕ). bit_xor n (over_zeros 64 four)) (over_zeros_xor 64 (bit_xor one two) three
    ∙ ap (λ (n : ℕ). bit_xor n (over_zeros 64 three)) (over_zeros_xor 64 one two)))
    ∙ ap (λ (n : ℕ). over_zeros 64 n) (nibbles r h)
