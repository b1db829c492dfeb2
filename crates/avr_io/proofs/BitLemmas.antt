-- A bit set by `|` and cleared by `& !`, found by computing over each byte and each bit.
use Rattle.std.proofs.Common.{◌≡◌, ℕ, ◌-◌, ◌*◌, ◌%◌, ◌^◌, ◌<◌, ◌==◌, Bool, true, false, refl, eqb-true, bit_and, bit_or}
use Rattle.avr_spec.specs.Bytes.{with_bit}
use Rattle.avr_spec.proofs.Computing.{all_pairs, at_pairs}

abbrev sets : ℕ → ℕ → Bool
sets byte k = bit_or byte (1 * 2 ^ k % 256) == with_bit byte k true

abbrev clears : ℕ → ℕ → Bool
clears byte k = bit_and byte (255 - 1 * 2 ^ k % 256) == with_bit byte k false

sets_all : all_pairs 256 8 sets ≡ true
sets_all = refl

clears_all : all_pairs 256 8 clears ≡ true
clears_all = refl

pub or-sets_bit : (byte k : ℕ) → byte < 256 → k < 8 → bit_or byte (1 * 2 ^ k % 256) ≡ with_bit byte k true
or-sets_bit byte k hb hk = eqb-true _ _ (at_pairs 256 8 sets sets_all byte k hb hk)

pub and-clears_bit : (byte k : ℕ) → byte < 256 → k < 8 → bit_and byte (255 - 1 * 2 ^ k % 256) ≡ with_bit byte k false
and-clears_bit byte k hb hk = eqb-true _ _ (at_pairs 256 8 clears clears_all byte k hb hk)
