-- The words of pages that are made of bytes, and of an erased flash.
use Rattle.std.proofs.Common.{◌≡◌, ℕ, ◌+◌, ◌*◌, ◌%◌, ◌<◌, ◌≤◌, ◌-◌, List, ◌++◌, length, take, drop, replicate}
use Rattle.std.proofs.Common.{sym, ap, ◌∙◌, arith, append_assoc}
use Rattle.std.proofs.lemmas.List.{length-take-le, length-drop, drop_at, drop-drop, drop-append-le, take-append-le, drop-replicate}
use Rattle.std.proofs.lemmas.List.{take-replicate}
use Rattle.part_spec.specs.Chip.{Chip, page_words, page_bytes, words_of}
use Rattle.part_spec.specs.Pages.{page_of, erased, overlaid, paired}
use Rattle.ice_answer.proofs.MemoryBytes.{length-paired, take-paired, drop-paired}

-- a page of a program over which bytes are laid: its words are made of its own bytes
pub page_of-overlaid : (prog bytes words : List ℕ) (first page at start count : ℕ) → page_words * first ≤ length prog →
    length bytes % 2 ≡ 0 →
    page_bytes * page + page_bytes ≤ length bytes → at ≡ first + page → start ≡ page_bytes * page → count ≡ page_bytes →
    words ≡ paired (take count (drop start bytes)) → page_of (overlaid prog (page_words * first) (paired bytes)) at ≡ words
page_of-overlaid prog bytes words first page at start count inside even within place begins whole are =
    let front : List ℕ = take (page_words * first) prog in
    let rest : List ℕ = drop (page_words * first + length (paired bytes)) prog in
    let half = length-paired bytes even in
    let size : length front ≡ page_words * first = length-take-le (page_words * first) prog inside in
    let by : page_words * at ≡ page_words * first + page_words * page = omega (arith, place) in
    let twice : 2 * (page_words * page) ≡ start = omega (arith, begins) in
    let here : page_words * page ≤ length (paired bytes) = omega (arith, half, within) in
    let fits : page_words ≤ length (drop (page_words * page) (paired bytes)) =
    omega (arith, half, within, length-drop (page_words * page) (paired bytes)) in
    ap (λ (k : ℕ). take page_words (drop k (front ++ paired bytes ++ rest))) by ∙
    ap (λ (t : List ℕ). take page_words (drop (page_words * first + page_words * page) t)) (append_assoc front (paired bytes) rest) ∙
    ap (take page_words) (sym (drop-drop (page_words * page) (page_words * first) (front ++ (paired bytes ++ rest)))) ∙
    ap (λ (t : List ℕ). take page_words (drop (page_words * page) t)) (drop_at front (paired bytes ++ rest) (page_words * first) size) ∙
    ap (take page_words) (drop-append-le (page_words * page) (paired bytes) rest here) ∙
    take-append-le page_words (drop (page_words * page) (paired bytes)) rest fits ∙
    ap (take page_words) (drop-paired (page_words * page) bytes) ∙ take-paired page_words (drop (2 * (page_words * page)) bytes) ∙
    ap (λ (k : ℕ). paired (take page_bytes (drop k bytes))) twice ∙ ap (λ (k : ℕ). paired (take k (drop start bytes))) (sym whole) ∙ sym are

-- a page of an erased flash
pub page_of-erased : (part : Chip) (words : List ℕ) (page : ℕ) → page < part.pages → words ≡ replicate page_words 0xFFFF →
    page_of (erased part) page ≡ words
unfolding erased
page_of-erased part words page inside are =
    ap (take page_words) (drop-replicate (page_words * page) (words_of part) 0xFFFF) ∙
    take-replicate page_words (words_of part - page_words * page) 0xFFFF (omega (arith, inside)) ∙ sym are
