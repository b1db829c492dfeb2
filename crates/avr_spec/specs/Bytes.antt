-- Bits, bytes, words and signed numbers, as whole numbers.
use Rattle.std.specs.Prelude.{ℕ, ◌+◌, ◌-◌, ◌/◌, ◌%◌, ◌^◌, Bool, not, ◌||◌, ◌==◌, nat_lt, int_lt, if◌then◌else◌, ℤ, pos, negsuc, ◌-ℤ◌}

-- bit k of a number is 1
abbrev pub has_bit : ℕ → ℕ → Bool
has_bit number k = number / 2 ^ k % 2 == 1

-- 1 for true, 0 for false
abbrev pub bit : Bool → ℕ
bit b = if b then 1 else 0

-- the two differ
abbrev pub differ : Bool → Bool → Bool
differ a b = if a then not b else b

-- the number with bit k as given
abbrev pub with_bit : ℕ → ℕ → Bool → ℕ
with_bit number k wanted =
    if has_bit number k then (if wanted then number else number - 2 ^ k) else (if wanted then number + 2 ^ k else number)

-- a byte as a signed number, in two's complement
abbrev pub signed : ℕ → ℤ
signed byte = if nat_lt byte 128 then pos byte else pos byte -ℤ pos 256

-- a signed number is outside -128 to 127
abbrev pub outside : ℤ → Bool
outside z = int_lt z (negsuc 127) || int_lt (pos 127) z

-- a signed number as a word, in two's complement
abbrev pub word_of : ℤ → ℕ
word_of (pos n) = n % 65536
word_of (negsuc n) = 65535 - n % 65536

-- the low byte of a word
abbrev pub low : ℕ → ℕ
low word = word % 256

-- the high byte of a word
abbrev pub high : ℕ → ℕ
high word = word / 256 % 256
