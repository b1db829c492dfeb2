-- The first words that begin 3 to 7 agree with the table, by computing.
use Rattle.std.proofs.Common.{ℕ, refl}
use Rattle.std.specs.Prelude.{codes}
use Rattle.avr_decode.specs.Choices.{by_six_bits}
use Rattle.avr_decode.proofs.Blocks.{Agrees}

pub begins_3 : (second : ℕ) → Agrees (codes "0011") by_six_bits second 0x3000 4096
begins_3 second = refl

pub begins_4 : (second : ℕ) → Agrees (codes "0100") by_six_bits second 0x4000 4096
begins_4 second = refl

pub begins_5 : (second : ℕ) → Agrees (codes "0101") by_six_bits second 0x5000 4096
begins_5 second = refl

pub begins_6 : (second : ℕ) → Agrees (codes "0110") by_six_bits second 0x6000 4096
begins_6 second = refl

pub begins_7 : (second : ℕ) → Agrees (codes "0111") by_six_bits second 0x7000 4096
begins_7 second = refl
