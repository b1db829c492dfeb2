-- The first words that begin F agree with the table, by computing.
use Rattle.std.proofs.Common.{ℕ, refl}
use Rattle.std.specs.Prelude.{codes}
use Rattle.avr_decode.specs.Choices.{by_six_bits}
use Rattle.avr_decode.proofs.Blocks.{Agrees}

pub begins_f : (second : ℕ) → Agrees (codes "1111") by_six_bits second 0xf000 4096
begins_f second = refl
