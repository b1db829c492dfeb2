-- The first words that begin B to E agree with the table, by computing.
use Rattle.std.proofs.Common.{ℕ, refl}
use Rattle.std.specs.Prelude.{codes}
use Rattle.avr_decode.specs.Choices.{by_six_bits}
use Rattle.avr_decode.proofs.Blocks.{Agrees}

pub begins_b : (second : ℕ) → Agrees (codes "1011") by_six_bits second 0xb000 4096
begins_b second = refl

pub begins_c : (second : ℕ) → Agrees (codes "1100") by_six_bits second 0xc000 4096
begins_c second = refl

pub begins_d : (second : ℕ) → Agrees (codes "1101") by_six_bits second 0xd000 4096
begins_d second = refl

pub begins_e : (second : ℕ) → Agrees (codes "1110") by_six_bits second 0xe000 4096
begins_e second = refl
