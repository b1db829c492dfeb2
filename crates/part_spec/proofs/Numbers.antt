-- What the numbers of the parts have in common.
use Rattle.std.proofs.Common.{◌-◌, ◌<◌, ◌≤◌, arith}
use Rattle.std.proofs.lemmas.Nat.{and_mask}
use Rattle.part_spec.specs.declared.part.Part.{Part}
use Rattle.part_spec.specs.declared.part.Part.TheVariants.{M16, M32}
use Rattle.part_spec.specs.Chip.{chip_of, words_of, IsMask}

-- a flash has more words than a relative jump can go back, and fewer than half of all words of 16 bits
pub words-large : (q : Part) → 4096 < words_of (chip_of q)
words-large M16 = omega arith
words-large M32 = omega arith

pub words-small : (q : Part) → words_of (chip_of q) ≤ 16384
words-small M16 = omega arith
words-small M32 = omega arith

-- the words of a flash are a power of two, and so are its bytes
pub words-mask : (q : Part) → IsMask (chip_of q) (words_of (chip_of q) - 1)
words-mask M16 = record { words = λ n. and_mask n 13; bytes = λ n. and_mask n 14 }
words-mask M32 = record { words = λ n. and_mask n 14; bytes = λ n. and_mask n 15 }
