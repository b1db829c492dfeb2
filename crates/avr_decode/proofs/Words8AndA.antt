-- The first words that begin 8 or A agree with the table, by computing.
use Rattle.std.proofs.Common.{ℕ, refl}
use Rattle.std.specs.Prelude.{codes}
use Rattle.avr_decode.specs.Choices.{by_six_bits}
use Rattle.avr_decode.proofs.Blocks.{Agrees}

pub begins_8 : (second : ℕ) → Agrees (codes "1000") by_six_bits second 0x8000 4096
begins_8 second = refl

pub begins_a : (second : ℕ) → Agrees (codes "1010") by_six_bits second 0xa000 4096
begins_a second = refl
