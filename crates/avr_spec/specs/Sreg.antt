-- The status register. Source: AVR Instruction Set Manual, "Status Register (SREG)".
use Rattle.std.specs.Prelude.{ℕ, ◌+◌, ◌*◌, Bool}
use Rattle.avr_spec.specs.Bytes.{has_bit, bit}

-- the flags I, T, H, S, V, N, Z and C
pub record Flags : Type 0 where
  pub interrupts : Bool
  pub transfer : Bool
  pub half_carry : Bool
  pub sign : Bool
  pub overflow : Bool
  pub negative : Bool
  pub zero : Bool
  pub carry : Bool

-- the flags that a byte of SREG holds
abbrev pub flags_of : ℕ → Flags
flags_of byte = record {
  interrupts = has_bit byte 7;
  transfer = has_bit byte 6;
  half_carry = has_bit byte 5;
  sign = has_bit byte 4;
  overflow = has_bit byte 3;
  negative = has_bit byte 2;
  zero = has_bit byte 1;
  carry = has_bit byte 0;
}

-- the byte of SREG that holds these flags
abbrev pub byte_of : Flags → ℕ
byte_of f =
    128 * bit f.interrupts + 64 * bit f.transfer + 32 * bit f.half_carry + 16 * bit f.sign +
    8 * bit f.overflow + 4 * bit f.negative + 2 * bit f.zero + bit f.carry
