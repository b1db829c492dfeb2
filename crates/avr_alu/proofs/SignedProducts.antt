-- The product of two bytes extended by their sign is their signed product, found by computing every pair of bytes.
use Rattle.std.proofs.Common.{◌≡◌, ℕ, ◌*◌, ◌%◌, ◌<◌, ◌==◌, Bool, true, refl, ap, ◌∙◌, eqb-true}
use Rattle.avr_spec.proofs.Computing.{all_pairs, at_pairs}
use Rattle.avr_spec.specs.Bytes.{signed, word_of}
use Rattle.avr_spec.specs.Flags.{signed_product}

abbrev extended_product : ℕ → ℕ → ℕ
extended_product a b = word_of (signed a) * word_of (signed b) % 65536

abbrev multiplies : ℕ → ℕ → Bool
multiplies a b = extended_product a b == signed_product a b

each_pair : all_pairs 256 256 multiplies ≡ true
each_pair = refl

pub product_of_extended : (a b x y : ℕ) → a < 256 → b < 256 → x ≡ word_of (signed a) → y ≡ word_of (signed b) →
    x * y % 65536 ≡ signed_product a b
product_of_extended a b x y ha hb ex ey =
    ap (λ (n : ℕ). n * y % 65536) ex ∙ ap (λ (n : ℕ). word_of (signed a) * n % 65536) ey ∙
    eqb-true (extended_product a b) (signed_product a b) (at_pairs 256 256 multiplies each_pair a b ha hb)
