-- SREG as a byte and as eight flags.
use Rattle.std.proofs.Common.{◌≡◌, ℕ, ◌+◌, ◌*◌, ◌/◌, ◌%◌, ◌^◌, ◌<◌, ◌==◌, Bool, true, false, refl, ap, ◌∙◌, arith, eqb-true}
use Rattle.avr_spec.proofs.Computing.{all_below, at_below}
use Rattle.avr_spec.specs.Bytes.{bit}
use Rattle.avr_spec.specs.Sreg.{flags_of, byte_of}
use Rattle.avr_spec.specs.Laws.{FlagsOfByte, ByteOfFlags}

each_byte : all_below 256 (λ b. byte_of (flags_of b) == b) ≡ true
each_byte = refl

pub byte_of_flags : ByteOfFlags
byte_of_flags byte small = eqb-true (byte_of (flags_of byte)) byte (at_below 256 (λ b. byte_of (flags_of b) == b) each_byte byte small)

one_bit : (b : Bool) → (bit b == 1) ≡ b
one_bit true = refl
one_bit false = refl

bit-below : (b : Bool) → bit b < 2
bit-below true = omega arith
bit-below false = omega arith

-- each bit of a sum of eight
parts : (a b c d e f g h : ℕ) → a < 2 → b < 2 → c < 2 → d < 2 → e < 2 → f < 2 → g < 2 → h < 2 →
    let n = 128 * a + 64 * b + 32 * c + 16 * d + 8 * e + 4 * f + 2 * g + h in
    (n / 2 ^ 7 % 2 ≡ a) × (n / 2 ^ 6 % 2 ≡ b) × (n / 2 ^ 5 % 2 ≡ c) × (n / 2 ^ 4 % 2 ≡ d) ×
    (n / 2 ^ 3 % 2 ≡ e) × (n / 2 ^ 2 % 2 ≡ f) × (n / 2 ^ 1 % 2 ≡ g) × (n / 2 ^ 0 % 2 ≡ h)
parts a b c d e f g h la lb lc ld le lf lg lh =
    (omega arith, omega arith, omega arith, omega arith, omega arith, omega arith, omega arith, omega arith)

pub flags_of_byte : FlagsOfByte
flags_of_byte f =
    let p = parts (bit f.interrupts) (bit f.transfer) (bit f.half_carry) (bit f.sign) (bit f.overflow) (bit f.negative) (bit f.zero)
    (bit f.carry)
    (bit-below f.interrupts) (bit-below f.transfer) (bit-below f.half_carry) (bit-below f.sign)
    (bit-below f.overflow) (bit-below f.negative) (bit-below f.zero) (bit-below f.carry) in
    joined (told f.interrupts p.0) (told f.transfer p.1) (told f.half_carry p.2) (told f.sign p.3)
    (told f.overflow p.4) (told f.negative p.5) (told f.zero p.6) (told f.carry p.7)
  where
    told : {n : ℕ} → (b : Bool) → n ≡ bit b → (n == 1) ≡ b
    told b e = ap (λ k. k == 1) e ∙ one_bit b

    joined : {i t h s v n z c : Bool} → i ≡ f.interrupts → t ≡ f.transfer → h ≡ f.half_carry → s ≡ f.sign → v ≡ f.overflow →
        n ≡ f.negative → z ≡ f.zero → c ≡ f.carry →
        record { interrupts = i; transfer = t; half_carry = h; sign = s; overflow = v; negative = n; zero = z; carry = c } ≡ f
    joined i t h s v n z c = λ k. record {
      interrupts = i k;
      transfer = t k;
      half_carry = h k;
      sign = s k;
      overflow = v k;
      negative = n k;
      zero = z k;
      carry = c k;
    }
