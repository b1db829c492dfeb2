-- Page writes, the lengths that they keep, and what stands in a flash behind them.
use Rattle.std.proofs.Common.{◌≡◌, ◌⊎◌, inl, inr, ℕ, ◌+◌, ◌-◌, ◌*◌, ◌<◌, ◌≤◌, List, ◌++◌, length, take, drop, slice_index, sym, ap, ◌∙◌}
use Rattle.std.proofs.Common.{arith, append_assoc, length-append}
use Rattle.std.proofs.lemmas.Bool.{cases_lt}
use Rattle.std.proofs.lemmas.List.{length-take-le, length-drop, length-replicate, get_or-replicate, take-append-drop, drop-drop, take_at}
use Rattle.std.proofs.lemmas.List.{drop_at, get_or_append_left, get_or-append_right, get_or-take, get_or-drop}
use Rattle.part_spec.specs.Chip.{Chip, page_words, words_of}
use Rattle.part_spec.specs.Pages.{erased, page_of, with_page, IsTornPage}

-- an erased flash has as many words as the part, each FFFF
pub length-erased : (part : Chip) → length (erased part) ≡ words_of part
unfolding erased
length-erased part = length-replicate (words_of part) 0xffff

pub slice_index-erased : (part : Chip) (address : ℕ) → address < words_of part → slice_index (erased part) address ≡ 0xffff
unfolding erased
slice_index-erased part address inside = get_or-replicate (words_of part) address 0xffff 0 inside

-- a page that ends within the flash
abbrev pub IsWithin : List ℕ → ℕ → Type 0
IsWithin flash page = page_words * page + page_words ≤ length flash

-- a page of a part lies within its flash
pub page-within : (part : Chip) (flash : List ℕ) (page : ℕ) → length flash ≡ words_of part → page < part.pages → IsWithin flash page
page-within part flash page size inside = omega (arith, size, inside)

-- what stands before a page
length-front : (flash : List ℕ) (page : ℕ) → IsWithin flash page → length (take (page_words * page) flash) ≡ page_words * page
length-front flash page within = length-take-le (page_words * page) flash (omega (arith, within))

pub length-page_of : (flash : List ℕ) (page : ℕ) → IsWithin flash page → length (page_of flash page) ≡ page_words
length-page_of flash page within =
    length-take-le page_words (drop (page_words * page) flash) (omega (arith, within, length-drop (page_words * page) flash))

-- a page write keeps the length of the flash
pub length-with_page : (flash : List ℕ) (page : ℕ) (words : List ℕ) → IsWithin flash page → length words ≡ page_words →
    length (with_page flash page words) ≡ length flash
length-with_page flash page words within whole =
    let front = take (page_words * page) flash in
    let rest = drop (page_words * page + page_words) flash in
    omega (
      arith,
      within,
      whole,
      length-append (front ++ words) rest,
      length-append front words,
      length-front flash page within,
      length-drop (page_words * page + page_words) flash,
    )

-- a page has the words that it was given
pub page_of-with_page : (flash : List ℕ) (page : ℕ) (words : List ℕ) → IsWithin flash page → length words ≡ page_words →
    page_of (with_page flash page words) page ≡ words
page_of-with_page flash page words within whole =
    let front = take (page_words * page) flash in
    let rest = drop (page_words * page + page_words) flash in
    ap (λ (t : List ℕ). take page_words (drop (page_words * page) t)) (append_assoc front words rest) ∙
    ap (take page_words) (drop_at front (words ++ rest) (page_words * page) (length-front flash page within)) ∙
    take_at words rest page_words whole

-- a flash is the pages before one, that page, and the pages behind it
pub with_page-page_of : (flash : List ℕ) (page : ℕ) → with_page flash page (page_of flash page) ≡ flash
with_page-page_of flash page =
    let front = take (page_words * page) flash in
    append_assoc front (page_of flash page) (drop (page_words * page + page_words) flash) ∙
    ap (λ (t : List ℕ). front ++ (page_of flash page ++ t)) (sym (drop-drop page_words (page_words * page) flash)) ∙
    ap (λ (t : List ℕ). front ++ t) (take-append-drop page_words (drop (page_words * page) flash)) ∙
    take-append-drop (page_words * page) flash

-- every word of a front of new words, and behind it those of the old, is the old one or the new one
pub front-is_torn : (old new : List ℕ) (count : ℕ) → length old ≡ page_words → length new ≡ page_words → count ≤ page_words →
    IsTornPage old new (take count new ++ drop count old)
front-is_torn old new count old_whole new_whole few = record {
  size = omega (arith, length-append (take count new) (drop count old), front_length, length-drop count old, old_whole, few);
  each = λ i. by_place i (cases_lt i count);
}
  where
    front_length : length (take count new) ≡ count
    front_length = length-take-le count new (omega (arith, new_whole, few))

    by_place : (i : ℕ) → (i < count) ⊎ (count ≤ i) →
        (slice_index (take count new ++ drop count old) i ≡ slice_index old i) ⊎
        (slice_index (take count new ++ drop count old) i ≡ slice_index new i)
    by_place i (inl before) =
        inr (get_or_append_left (take count new) (drop count old) 0 i (omega (arith, front_length, before)) ∙
        get_or-take count new i 0 before)
    by_place i (inr behind) =
        let place : count + (i - count) ≡ i = omega (arith, behind) in
        let in_rest = get_or-append_right (take count new) (drop count old) count i 0 front_length behind in
        inl (in_rest ∙ get_or-drop count old (i - count) 0 ∙ ap (λ (n : ℕ). slice_index old n) place)
