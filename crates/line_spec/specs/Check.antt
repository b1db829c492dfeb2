-- The frame check: CRC-16/MCRF4XX, which is the reflected polynomial 0x8408 from 0xFFFF on (AVR067, 'Message format').
use Rattle.std.specs.Prelude.{ℕ, zero, suc, ◌/◌, ◌%◌, ◌==◌, List, fold, bit_xor, if◌then◌else◌}

-- one bit of the check: the number halved, with the polynomial over it where it was odd
abbrev pub shifted : ℕ → ℕ
shifted r = if r % 2 == 0 then r / 2 else bit_xor (r / 2) 0x8408

abbrev pub shifted_times : ℕ → ℕ → ℕ
shifted_times zero r = r
shifted_times (suc n) r = shifted (shifted_times n r)

-- the check with one more byte
unfoldable pub checked : ℕ → ℕ → ℕ
checked r byte = shifted_times 8 (bit_xor r byte)

-- the check of the bytes
unfoldable pub check : List ℕ → ℕ
check bytes = fold checked 0xFFFF bytes
