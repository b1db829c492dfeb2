-- The carries of a sum and the borrows of a difference, by the bits of a result into which one came.
use Rattle.std.specs.Prelude.{ℕ, ◌/◌, ◌%◌, ◌==◌}
use Rattle.avr_spec.specs.Bytes.{has_bit, differ}
use Rattle.avr_alu.specs.declared.status.Decided.{Decided}

-- of the bits into which a carry came, bits 4 to 8
abbrev pub carry_bits : ℕ → ℕ
carry_bits carried = carried / 16 % 32

-- the flags of a result byte with these carries: one came into bit 4, into bit 7 or bit 8 alone, and into bit 8
abbrev pub decided_by : ℕ → ℕ → Decided
decided_by value carries = record {
  half_carry = has_bit carries 0;
  overflow = differ (has_bit carries 3) (has_bit carries 4);
  negative = has_bit value 7;
  zero = value == 0;
  carry = has_bit carries 4;
}
