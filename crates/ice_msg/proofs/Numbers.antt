-- Numbers of four bytes, low byte first, in a list of bytes.
use Rattle.std.proofs.Common.{◌≡◌, ℕ, zero, suc, ◌<◌, List, [], ◌∷◌, length, slice_index, refl, lit<}
use Rattle.std.specs.Int.{w32, to_le_bytes, from_le_bytes}
use Rattle.std.proofs.lemmas.Slice.Eq.{text_from_reads}
use Rattle.std.proofs.lemmas.Nat.{le_bytes_4}
use Rattle.line_spec.specs.Frames.{IsBytes}

four_bytes : (a b c d : ℕ) → a < 256 → b < 256 → c < 256 → d < 256 → IsBytes (a ∷ b ∷ c ∷ d ∷ [])
four_bytes a b c d a_fits b_fits c_fits d_fits zero = a_fits
four_bytes a b c d a_fits b_fits c_fits d_fits (suc zero) = b_fits
four_bytes a b c d a_fits b_fits c_fits d_fits (suc (suc zero)) = c_fits
four_bytes a b c d a_fits b_fits c_fits d_fits (suc (suc (suc zero))) = d_fits
four_bytes a b c d a_fits b_fits c_fits d_fits (suc (suc (suc (suc i)))) = lit< tt

-- four bytes, low byte first, make a number that is written as these bytes
pub word_bytes : (a b c d n : ℕ) → a < 256 → b < 256 → c < 256 → d < 256
    → n ≡ from_le_bytes w32 (a ∷ b ∷ c ∷ d ∷ []) → to_le_bytes w32 n ≡ a ∷ b ∷ c ∷ d ∷ []
word_bytes a b c d n a_fits b_fits c_fits d_fits made =
    le_bytes_4 (a ∷ b ∷ c ∷ d ∷ []) n refl (four_bytes a b c d a_fits b_fits c_fits d_fits) made

-- the four bytes at a place of a list
abbrev pub four_at : ℕ → List ℕ → List ℕ
four_at place bytes = slice_index bytes place ∷ slice_index bytes (suc place) ∷ slice_index bytes (suc (suc place)) ∷ slice_index bytes (suc (suc (suc place))) ∷ []

pub four_written : (place n : ℕ) (bytes : List ℕ) → IsBytes bytes → n ≡ from_le_bytes w32 (four_at place bytes)
    → to_le_bytes w32 n ≡ four_at place bytes
four_written place n bytes fit made =
    word_bytes _ _ _ _ n (fit place) (fit (suc place)) (fit (suc (suc place))) (fit (suc (suc (suc place)))) made

pub four_bytes_of : (rest : List ℕ) → length rest ≡ 4 → rest ≡ four_at 0 rest
four_bytes_of rest four = text_from_reads rest _ four (refl, (refl, (refl, (refl, tt))))

pub five_bytes_of : (rest : List ℕ) → length rest ≡ 5 → rest ≡ slice_index rest 0 ∷ four_at 1 rest
five_bytes_of rest five = text_from_reads rest _ five (refl, (refl, (refl, (refl, (refl, tt)))))
