-- A flash that is filled from address 0 on.
use Rattle.std.proofs.Common.{◌≡◌, ℕ, zero, suc, ◌+◌, ◌*◌, ◌%◌, List, [], ◌∷◌, ◌++◌, Option, Some, None, Ok, length, map, replicate, Result, refl, sym, ap, ap₂, ◌∙◌, subst, append-nil, append_assoc, arith}
use Rattle.std.specs.Prelude.{slice_get}
use Rattle.std.proofs.Math.Seq.{set-append_seam}
use Rattle.std.proofs.lemmas.List.{length-append, length-map, map-append}
use Rattle.part_spec.specs.Pages.{paired}
use Rattle.image_hex.specs.Hex.{placed, placed_over, all_placed, onward, or_erased, words_in}
use Rattle.image_hex.specs.declared.error.ImageError.{ImageError}

-- the flash with these bytes at its front, and so many behind them that were not given
abbrev pub begun : List ℕ → ℕ → List (Option ℕ)
begun front free = map Some front ++ replicate free None

slice_get-append_seam : (xs : List (Option ℕ)) (x : Option ℕ) (ys : List (Option ℕ)) → slice_get (xs ++ x ∷ ys) (length xs) ≡ Some x
slice_get-append_seam [] x ys = refl
slice_get-append_seam (other ∷ xs) x ys = slice_get-append_seam xs x ys

placed-begun : (front : List ℕ) (byte free : ℕ) → placed (begun front (suc free)) (length front) byte ≡ Ok (begun (front ++ byte ∷ []) free)
placed-begun front byte free =
    let size : length (map Some front) ≡ length front = length-map front Some in
    let here : slice_get (begun front (suc free)) (length front) ≡ Some None =
    rw (← size) (slice_get-append_seam (map Some front) None (replicate free None)) in
    let put = set-append_seam (map Some front) None (replicate free None) (Some byte) in
    let grown : begun (front ++ byte ∷ []) free ≡ map Some front ++ (Some byte ∷ replicate free None) =
    ap (λ (flash : List (Option ℕ)). flash ++ replicate free None) (map-append Some front (byte ∷ []))
    ∙ append_assoc (map Some front) (Some byte ∷ []) (replicate free None) in
    ap (λ (found : Option (Option ℕ)). placed_over found (begun front (suc free)) (length front) byte) here
    ∙ ap Ok (rw (← size) (put ∙ sym grown))

-- bytes placed behind the front lengthen it
pub all_placed-begun : (bytes front : List ℕ) (free left : ℕ) → free ≡ length bytes + left
    → all_placed bytes (length front) (begun front free) ≡ Ok (begun (front ++ bytes) left)
all_placed-begun [] front free left size =
    let same : free ≡ left = omega (arith, size) in ap Ok (ap₂ begun (sym (append-nil front)) same)
all_placed-begun (byte ∷ bytes) front free left size =
    let all : free ≡ suc (length bytes + left) = omega (arith, size) in
    let at : length (front ++ byte ∷ []) ≡ length front + 1 = length-append front (byte ∷ []) in
    let rest = all_placed-begun bytes (front ++ byte ∷ []) (length bytes + left) left refl in
    let P : ℕ → Type 0 = λ n. onward (placed (begun front n) (length front) byte) (all_placed bytes (length front + 1))
    ≡ Ok (begun (front ++ byte ∷ bytes) left) in
    let Q : ℕ → Type 0 = λ n. all_placed bytes n (begun (front ++ byte ∷ []) (length bytes + left))
    ≡ Ok (begun ((front ++ byte ∷ []) ++ bytes) left) in
    subst P (sym all) (
    ap (λ (flash : Result (List (Option ℕ)) ImageError). onward flash (all_placed bytes (length front + 1)))
    (placed-begun front byte (length bytes + left))
    ∙ subst Q at rest
    ∙ ap (λ (grown : List ℕ). Ok (begun grown left)) (append_assoc front (byte ∷ []) bytes)
    )

map-begun : (bytes : List ℕ) (left : ℕ) → map or_erased (begun bytes left) ≡ bytes ++ replicate left 0xff
map-begun [] zero = refl
map-begun [] (suc left) = ap (λ (more : List ℕ). 0xff ∷ more) (map-begun [] left)
map-begun (byte ∷ bytes) left = ap (λ (more : List ℕ). byte ∷ more) (map-begun bytes left)

paired-erased : (left words : ℕ) → left ≡ 2 * words → paired (replicate left 0xff) ≡ replicate words 0xffff
paired-erased zero zero size = refl
paired-erased zero (suc words) size = absurd (omega arith)
paired-erased (suc zero) words size = absurd (omega arith)
paired-erased (suc (suc left)) zero size = absurd (omega arith)
paired-erased (suc (suc left)) (suc words) size = ap (λ (more : List ℕ). 0xffff ∷ more) (paired-erased left words (omega arith))

paired-behind : (bytes more : List ℕ) → length bytes % 2 ≡ 0 → paired (bytes ++ more) ≡ paired bytes ++ paired more
paired-behind [] more even = refl
paired-behind (low ∷ []) more even = absurd (omega arith)
paired-behind (low ∷ high ∷ bytes) more even = ap (λ (words : List ℕ). (low + 256 * high) ∷ words) (paired-behind bytes more (omega arith))

-- the words of a flash that has whole words at its front
pub words_in-begun : (bytes : List ℕ) (left words : ℕ) → length bytes % 2 ≡ 0 → left ≡ 2 * words
    → words_in (begun bytes left) ≡ paired bytes ++ replicate words 0xffff
words_in-begun bytes left words even size =
    ap paired (map-begun bytes left) ∙ paired-behind bytes (replicate left 0xff) even
    ∙ ap (λ (more : List ℕ). paired bytes ++ more) (paired-erased left words size)
