-- Bytes as words.
use Rattle.std.proofs.Common.{◌≡◌, ℕ, ◌+◌, ◌-◌, ◌*◌, ◌%◌, ◌<◌, ◌≤◌, List, [], ◌∷◌, ◌++◌, length, take, take_all, replicate, refl, ap, ap₂, ◌∙◌, append-nil, arith}
use Rattle.part_spec.specs.Chip.{Chip, words_of, flash_bytes}
use Rattle.part_spec.specs.Pages.{paired}
use Rattle.image_hex.specs.Raw.{program_of}

-- two bytes make a word
pub length-paired : (bytes : List ℕ) → 2 * length (paired bytes) + length bytes % 2 ≡ length bytes
length-paired [] = refl
length-paired (low ∷ []) = refl
length-paired (low ∷ high ∷ bytes) = omega (arith, length-paired bytes)

pub paired-short : (bytes : List ℕ) → length bytes < 2 → paired bytes ≡ []
paired-short [] h = refl
paired-short (low ∷ []) h = refl
paired-short (low ∷ high ∷ bytes) h = absurd (omega arith)

-- the words of the bytes, filled up to the flash, are its program
pub program_filled : (part : Chip) (words bytes : List ℕ) (size n : ℕ) → words ≡ paired bytes → n ≡ length words → size ≡ words_of part
    → length bytes ≤ flash_bytes part → take size words ++ replicate (size - n) 0xffff ≡ program_of part bytes
program_filled part words bytes size n same count all fits =
    let within : length (paired bytes) ≤ size = omega (arith, length-paired bytes) in
    let whole : take size words ≡ paired bytes = ap (take size) same ∙ take_all size (paired bytes) within in
    ap₂ (λ (front : List ℕ) (k : ℕ). front ++ replicate k 0xffff) whole (omega (arith, ap length same))

-- as many bytes as the flash has fill it
pub program_of-all : (part : Chip) (bytes : List ℕ) → length bytes ≡ flash_bytes part → program_of part bytes ≡ paired bytes
program_of-all part bytes all =
    let none : words_of part - length (paired bytes) ≡ 0 = omega (arith, length-paired bytes) in
    ap (λ (k : ℕ). paired bytes ++ replicate k 0xffff) none ∙ append-nil (paired bytes)
