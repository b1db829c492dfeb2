-- A carry as a number, and a difference as the code wraps it.
use Rattle.std.proofs.Common.{◌≡◌, ℕ, ◌+◌, ◌-◌, ◌%◌, ◌<◌, Bool, true, false, refl, arith}
use mir.Val.{bool_byte}
use Rattle.avr_spec.specs.Bytes.{bit}

-- in the code's word and in the book's
pub as_bit : (b : Bool) → bool_byte b ≡ bit b
as_bit true = refl
as_bit false = refl

pub bit-below : (b : Bool) → bit b < 2
bit-below true = omega arith
bit-below false = omega arith

-- a word lowered by a byte and by a borrow
abbrev pub lowered : ℕ → ℕ → ℕ → ℕ
lowered c a b = ((a + (65536 - b)) % 65536 + (65536 - c)) % 65536

pub lowered-is : (a b c : ℕ) → a < 256 → b < 256 → c < 2 → lowered c a b ≡ (65536 + a - (b + c)) % 65536
lowered-is a b c ha hb hc = omega arith

pub low-lowered : (a b c : ℕ) → a < 256 → b < 256 → c < 2 → (65536 + a - (b + c)) % 65536 % 256 ≡ (256 + a - (b + c)) % 256
low-lowered a b c ha hb hc = omega arith
