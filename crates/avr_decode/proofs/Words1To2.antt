-- The first words that begin 1 or 2 agree with the table, by computing.
use Rattle.std.proofs.Common.{ℕ, refl}
use Rattle.std.specs.Prelude.{codes}
use Rattle.avr_decode.specs.Choices.{by_six_bits}
use Rattle.avr_decode.proofs.Blocks.{Agrees}

pub begins_1 : (second : ℕ) → Agrees (codes "0001") by_six_bits second 0x1000 4096
begins_1 second = refl

pub begins_2 : (second : ℕ) → Agrees (codes "0010") by_six_bits second 0x2000 4096
begins_2 second = refl
