-- Arithmetic and logic: the result of each operation and the flags that it leaves, in whole numbers.
-- Source: AVR Instruction Set Manual. A carry is a sum of at least 256, an overflow a signed sum outside -128 to 127.
-- A flag that a definition does not name stays.
use Rattle.std.specs.Prelude.{ℕ, ◌+◌, ◌-◌, ◌*◌, ◌/◌, ◌%◌, Bool, true, false, ◌&&◌, ◌==◌, nat_lt, nat_le, ◌+ℤ◌, ◌-ℤ◌, ◌*ℤ◌, pos, bit_and}
use Rattle.std.specs.Prelude.{bit_or, bit_xor}
use Rattle.avr_spec.specs.Bytes.{has_bit, bit, differ, signed, outside, word_of}
use Rattle.avr_spec.specs.Sreg.{Flags, flags_of, byte_of}

-- what an operation leaves: a byte or a word, and the flags
pub record AluResult : Type 0 where
  pub value : ℕ
  pub flags : Flags

-- an operation as a call over the byte of SREG: the value and the new byte
abbrev pub as_call : (Flags → AluResult) → ℕ → ℕ × ℕ
as_call operation sreg = let after = operation (flags_of sreg) in (after.value, byte_of after.flags)

-- V and N as given, Z as given, and S where N and V differ
abbrev pub signs : Flags → Bool → Bool → Bool → Flags
signs f v n z = record f { sign = differ n v; overflow = v; negative = n; zero = z }

-- the same, with N and Z those of a result byte
abbrev pub signs_of : Flags → Bool → ℕ → Flags
signs_of f v result_byte = signs f v (has_bit result_byte 7) (result_byte == 0)

-- a + b + c, where c is 0 or 1
abbrev pub sum_of : ℕ → ℕ → ℕ → Flags → AluResult
sum_of c a b f = let result_byte = (a + b + c) % 256 in record {
  value = result_byte;
  flags = record (signs_of f (outside (signed a +ℤ signed b +ℤ pos c)) result_byte) {
    carry = nat_le 256 (a + b + c);
    half_carry = nat_le 16 (a % 16 + b % 16 + c);
  };
}

-- ADD
abbrev pub add_of : ℕ → ℕ → Flags → AluResult
add_of a b f = sum_of 0 a b f

-- ADC
abbrev pub adc_of : ℕ → ℕ → Flags → AluResult
adc_of a b f = sum_of (bit f.carry) a b f

-- a - b - c, where c is 0 or 1
abbrev pub difference_of : ℕ → ℕ → ℕ → Flags → AluResult
difference_of c a b f = let result_byte = (256 + a - (b + c)) % 256 in record {
  value = result_byte;
  flags = record (signs_of f (outside (signed a -ℤ signed b -ℤ pos c)) result_byte) {
    carry = nat_lt a (b + c);
    half_carry = nat_lt (a % 16) (b % 16 + c);
  };
}

-- SUB, SUBI, CP and CPI
abbrev pub sub_of : ℕ → ℕ → Flags → AluResult
sub_of a b f = difference_of 0 a b f

-- SBC, SBCI and CPC: Z says whether the whole number so far is 0
abbrev pub sbc_of : ℕ → ℕ → Flags → AluResult
sbc_of a b f = let after = difference_of (bit f.carry) a b f in
    record after { flags = record after.flags { zero = after.flags.zero && f.zero } }

-- NEG
abbrev pub neg_of : ℕ → Flags → AluResult
neg_of a f = sub_of 0 a f

-- a result of a bitwise operation
abbrev pub logic_of : ℕ → Flags → AluResult
logic_of result_byte f = record { value = result_byte; flags = signs_of f false result_byte }

-- AND and ANDI
abbrev pub and_of : ℕ → ℕ → Flags → AluResult
and_of a b f = logic_of (bit_and a b) f

-- OR and ORI
abbrev pub or_of : ℕ → ℕ → Flags → AluResult
or_of a b f = logic_of (bit_or a b) f

-- EOR
abbrev pub eor_of : ℕ → ℕ → Flags → AluResult
eor_of a b f = logic_of (bit_xor a b) f

-- COM
abbrev pub com_of : ℕ → Flags → AluResult
com_of a f = record { value = 255 - a; flags = record (signs_of f false (255 - a)) { carry = true } }

-- INC
abbrev pub inc_of : ℕ → Flags → AluResult
inc_of a f = let result_byte = (a + 1) % 256 in record { value = result_byte; flags = signs_of f (result_byte == 0x80) result_byte }

-- DEC
abbrev pub dec_of : ℕ → Flags → AluResult
dec_of a f = let result_byte = (a + 255) % 256 in record { value = result_byte; flags = signs_of f (result_byte == 0x7f) result_byte }

-- a halved, with this top bit; C is the bit shifted out, and V says whether N and C differ
abbrev pub shift_of : Bool → ℕ → Flags → AluResult
shift_of top a f = let result_byte = 128 * bit top + a / 2 in record {
  value = result_byte;
  flags = record (signs_of f (differ (has_bit result_byte 7) (has_bit a 0)) result_byte) { carry = has_bit a 0 };
}

-- LSR
abbrev pub lsr_of : ℕ → Flags → AluResult
lsr_of a f = shift_of false a f

-- ASR
abbrev pub asr_of : ℕ → Flags → AluResult
asr_of a f = shift_of (has_bit a 7) a f

-- ROR
abbrev pub ror_of : ℕ → Flags → AluResult
ror_of a f = shift_of f.carry a f

-- ADIW, of a word and a number below 64
abbrev pub adiw_of : ℕ → ℕ → Flags → AluResult
adiw_of a k f = let result_word = (a + k) % 65536 in record {
  value = result_word;
  flags = record (signs f (nat_lt a 32768 && nat_le 32768 result_word) (has_bit result_word 15) (result_word == 0)) {
    carry = nat_le 65536 (a + k);
  };
}

-- SBIW, of a word and a number below 64
abbrev pub sbiw_of : ℕ → ℕ → Flags → AluResult
sbiw_of a k f = let result_word = (65536 + a - k) % 65536 in record {
  value = result_word;
  flags = record (signs f (nat_le 32768 a && nat_lt result_word 32768) (has_bit result_word 15) (result_word == 0)) {
    carry = nat_lt a k;
  };
}

-- a product as a word
abbrev pub product_of : ℕ → Flags → AluResult
product_of product f = record { value = product; flags = record f { zero = product == 0; carry = has_bit product 15 } }

-- a fractional product: twice the product, whose top bit goes to C
abbrev pub fraction_of : ℕ → Flags → AluResult
fraction_of product f = let result_word = 2 * product % 65536 in
    record { value = result_word; flags = record f { zero = result_word == 0; carry = has_bit product 15 } }

-- the products of two bytes: both unsigned, both signed, and the first signed
abbrev pub unsigned_product : ℕ → ℕ → ℕ
unsigned_product a b = a * b

abbrev pub signed_product : ℕ → ℕ → ℕ
signed_product a b = word_of (signed a *ℤ signed b)

abbrev pub mixed_product : ℕ → ℕ → ℕ
mixed_product a b = word_of (signed a *ℤ pos b)

-- MUL
abbrev pub mul_of : ℕ → ℕ → Flags → AluResult
mul_of a b f = product_of (unsigned_product a b) f

-- MULS
abbrev pub muls_of : ℕ → ℕ → Flags → AluResult
muls_of a b f = product_of (signed_product a b) f

-- MULSU
abbrev pub mulsu_of : ℕ → ℕ → Flags → AluResult
mulsu_of a b f = product_of (mixed_product a b) f

-- FMUL
abbrev pub fmul_of : ℕ → ℕ → Flags → AluResult
fmul_of a b f = fraction_of (unsigned_product a b) f

-- FMULS
abbrev pub fmuls_of : ℕ → ℕ → Flags → AluResult
fmuls_of a b f = fraction_of (signed_product a b) f

-- FMULSU
abbrev pub fmulsu_of : ℕ → ℕ → Flags → AluResult
fmulsu_of a b f = fraction_of (mixed_product a b) f
