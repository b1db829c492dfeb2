-- The first words that begin 0 agree with the table, by computing.
use Rattle.std.proofs.Common.{ℕ, refl}
use Rattle.std.specs.Prelude.{codes}
use Rattle.avr_decode.specs.Choices.{by_six_bits}
use Rattle.avr_decode.proofs.Blocks.{Agrees}

pub begins_0 : (second : ℕ) → Agrees (codes "0000") by_six_bits second 0x0000 4096
begins_0 second = refl
