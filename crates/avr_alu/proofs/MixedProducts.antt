-- The product of a byte extended by its sign and a byte is their mixed product, found by computing every pair of bytes.
use Rattle.std.proofs.Common.{◌≡◌, ℕ, ◌*◌, ◌%◌, ◌<◌, ◌==◌, Bool, true, refl, ap, ◌∙◌, eqb-true}
use Rattle.avr_spec.proofs.Computing.{all_pairs, at_pairs}
use Rattle.avr_spec.specs.Bytes.{signed, word_of}
use Rattle.avr_spec.specs.Flags.{mixed_product}

abbrev extended_product : ℕ → ℕ → ℕ
extended_product a b = word_of (signed a) * b % 65536

abbrev multiplies : ℕ → ℕ → Bool
multiplies a b = extended_product a b == mixed_product a b

each_pair : all_pairs 256 256 multiplies ≡ true
each_pair = refl

pub product_of_first_extended : (a b x : ℕ) → a < 256 → b < 256 → x ≡ word_of (signed a) → x * b % 65536 ≡ mixed_product a b
product_of_first_extended a b x ha hb ex =
    ap (λ (n : ℕ). n * b % 65536) ex ∙
    eqb-true (extended_product a b) (mixed_product a b) (at_pairs 256 256 multiplies each_pair a b ha hb)
