-- The first words that begin 9 agree with the table, by computing.
use Rattle.std.proofs.Common.{ℕ, refl}
use Rattle.std.specs.Prelude.{codes}
use Rattle.avr_decode.specs.Choices.{by_six_bits}
use Rattle.avr_decode.proofs.Blocks.{Agrees}

pub loads : (second : ℕ) → Agrees (codes "1001 000") by_six_bits second 0x9000 512
loads second = refl

pub stores : (second : ℕ) → Agrees (codes "1001 001") by_six_bits second 0x9200 512
stores second = refl

pub one_register : (second : ℕ) → Agrees (codes "1001 010") by_six_bits second 0x9400 512
one_register second = refl

pub word_sums : (second : ℕ) → Agrees (codes "1001 011") by_six_bits second 0x9600 512
word_sums second = refl

pub io_bits : (second : ℕ) → Agrees (codes "1001 10") by_six_bits second 0x9800 1024
io_bits second = refl

pub products : (second : ℕ) → Agrees (codes "1001 11") by_six_bits second 0x9c00 1024
products second = refl
