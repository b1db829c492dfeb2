-- The bits of a word, and the word that they make.
use Rattle.std.proofs.Common.{◌≡◌, ℕ, ◌+◌, ◌*◌, ◌/◌, ◌%◌, ◌^◌, ◌<◌, ◌==◌, Bool, true, List, [], ◌∷◌, length, refl, eqb-true, arith}
use Rattle.std.specs.Prelude.{⊤}
use Rattle.std.proofs.Math.Nat.{mod-lt}
use Rattle.avr_spec.specs.Decode.{bits}
use Rattle.avr_spec.proofs.Computing.{all_below, at_below}

-- the number that bits make, the most significant first
abbrev pub binary : List ℕ → ℕ
binary [] = 0
binary (bit ∷ bits) = bit * 2 ^ length bits + binary bits

-- each number of a list is a bit
abbrev pub AreBits : List ℕ → Type 0
AreBits [] = ⊤
AreBits (bit ∷ bits) = (bit < 2) × AreBits bits

is_word : ℕ → Bool
is_word word = binary (bits word) == word

all_words : all_below 65536 is_word ≡ true
unfolding is_word
all_words = refl

-- a word is what its bits make
pub binary_bits : (word : ℕ) → word < 65536 → binary (bits word) ≡ word
unfolding is_word
binary_bits word small = eqb-true (binary (bits word)) word (at_below 65536 is_word all_words word small)

pub bits_are : (word : ℕ) → AreBits (bits word)
bits_are w =
    let bit : (n : ℕ) → n % 2 < 2 = λ n. mod-lt n (omega arith) in
    let last : AreBits (w / 8 % 2 ∷ w / 4 % 2 ∷ w / 2 % 2 ∷ w % 2 ∷ []) = (bit (w / 8), (bit (w / 4), (bit (w / 2), (bit w, tt)))) in
    let low : AreBits (w / 0x80 % 2 ∷ w / 0x40 % 2 ∷ w / 0x20 % 2 ∷ w / 0x10 % 2 ∷ w / 8 % 2 ∷ w / 4 % 2 ∷ w / 2 % 2 ∷ w % 2 ∷ []) =
    (bit (w / 0x80), (bit (w / 0x40), (bit (w / 0x20), (bit (w / 0x10), last)))) in
    let more : AreBits (w / 0x800 % 2 ∷ w / 0x400 % 2 ∷ w / 0x200 % 2 ∷ w / 0x100 % 2 ∷ w / 0x80 % 2 ∷ w / 0x40 % 2 ∷ w / 0x20 % 2 ∷ w / 0x10 % 2 ∷
    w / 8 % 2 ∷ w / 4 % 2 ∷ w / 2 % 2 ∷ w % 2 ∷ []) =
    (bit (w / 0x800), (bit (w / 0x400), (bit (w / 0x200), (bit (w / 0x100), low)))) in
    (bit (w / 0x8000), (bit (w / 0x4000), (bit (w / 0x2000), (bit (w / 0x1000), more))))
