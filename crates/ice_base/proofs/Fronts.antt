-- A page of which only a front was written.
use Rattle.std.proofs.Common.{◌≡◌, ℕ, ◌+◌, ◌*◌, ◌≤◌, List, ◌++◌, length, take, drop, sym, ap, ◌∙◌, arith, append_assoc, append-nil}
use Rattle.std.proofs.Math.Seq.{take-length}
use Rattle.std.proofs.lemmas.List.{length-take-le, drop-append-le, take-append-drop, drop-drop, drop_all}
use Rattle.part_spec.specs.Chip.{page_words}
use Rattle.part_spec.specs.Pages.{overlaid, page_of, with_page}
use Rattle.part_spec.proofs.PageLemmas.{IsWithin, length-page_of}
use Rattle.ice_base.specs.MemFlash.{fronted, with_front}

-- the words of the page behind the front, and those behind the page
rest_of_page : (flash : List ℕ) (page count : ℕ) → IsWithin flash page → count ≤ page_words →
    drop count (page_of flash page) ++ drop (page_words * page + page_words) flash ≡ drop (page_words * page + count) flash
rest_of_page flash page count within few =
    let behind = drop (page_words * page) flash in
    ap (λ (t : List ℕ). drop count (page_of flash page) ++ t) (sym (drop-drop page_words (page_words * page) flash)) ∙
    sym (drop-append-le count (page_of flash page) (drop page_words behind) (omega (arith, length-page_of flash page within, few))) ∙
    ap (drop count) (take-append-drop page_words behind) ∙
    drop-drop count (page_words * page) flash

-- the words set from the start of the page on
pub front_set : (flash words : List ℕ) (page count : ℕ) → IsWithin flash page → length words ≡ page_words → count ≤ page_words →
    overlaid flash (page_words * page) (take count words) ≡ with_front flash page count words
front_set flash words page count within whole few =
    let front = take (page_words * page) flash in
    let size : length (take count words) ≡ count = length-take-le count words (omega (arith, whole, few)) in
    ap (λ (n : ℕ). front ++ take count words ++ drop (page_words * page + n) flash) size ∙
    append_assoc front (take count words) (drop (page_words * page + count) flash) ∙
    ap (λ (t : List ℕ). front ++ (take count words ++ t)) (sym (rest_of_page flash page count within few)) ∙
    ap (λ (t : List ℕ). front ++ t)
    (sym (append_assoc (take count words) (drop count (page_of flash page)) (drop (page_words * page + page_words) flash))) ∙
    sym (append_assoc front (fronted count words (page_of flash page)) (drop (page_words * page + page_words) flash))

-- a page whose words all were written
pub front_is_page : (flash words : List ℕ) (page : ℕ) → IsWithin flash page → length words ≡ page_words →
    with_front flash page page_words words ≡ with_page flash page words
front_is_page flash words page within whole =
    let none = drop_all page_words (page_of flash page) (omega (arith, length-page_of flash page within)) in
    let all : take page_words words ≡ words = ap (λ n. take n words) (sym whole) ∙ take-length words in
    ap (with_page flash page) (ap (λ (t : List ℕ). take page_words words ++ t) none ∙ append-nil (take page_words words) ∙ all)
