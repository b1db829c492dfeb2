-- The flags that arithmetic decides, and where they stand in SREG.
use Rattle.std.specs.Prelude.{ℕ, ◌&&◌}
use Rattle.avr_spec.specs.Sreg.{Flags, flags_of}
use Rattle.avr_spec.specs.Flags.{AluResult, signs}
use Rattle.avr_alu.specs.declared.status.Decided.{Decided}

-- those of a byte of SREG
abbrev pub decided_in : ℕ → Decided
decided_in sreg = let f = flags_of sreg in record {
  half_carry = f.half_carry;
  overflow = f.overflow;
  negative = f.negative;
  zero = f.zero;
  carry = f.carry;
}

-- the flags with those decided, S following N and V
abbrev pub with_decided : Decided → Flags → Flags
with_decided d f = record (signs f d.overflow d.negative d.zero) { half_carry = d.half_carry; carry = d.carry }

-- a value and the flags decided, as what an operation leaves over these flags
abbrev pub alu_result_in : ℕ × Decided → Flags → AluResult
alu_result_in after f = record { value = after.0; flags = with_decided after.1 f }

-- these flags for one more byte of a longer number, which is 0 only where the bytes so far were
abbrev pub still_zero : Flags → Decided → Decided
still_zero f d = record d { zero = d.zero && f.zero }
