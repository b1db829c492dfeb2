-- The words of a page beside others, one by one.
use Rattle.std.proofs.Common.{◌≡◌, ℕ, ◌+◌, ◌*◌, ◌<◌, ◌≤◌, ◌==◌, ◌&&◌, Bool, List, [], length, drop, get_or, sym, ◌∙◌}
use Rattle.std.proofs.Common.{ap, ap₂, arith}
use Rattle.std.proofs.lemmas.List.{drop_more, get_or-take, get_or-drop, length-take, length-drop, nil_from_length}
use Rattle.std.proofs.Math.Bool.{and_assoc, and-true}
use Rattle.part_spec.specs.Chip.{page_words}
use Rattle.part_spec.specs.Pages.{page_of, page_has, same_words}
use Rattle.part_spec.proofs.PageLemmas.{IsWithin, length-page_of}

module _ (flash content : List ℕ) (page place : ℕ) where
  -- the words from a place on are the same
  abbrev pub rest_same : ℕ → Bool
  rest_same from = same_words (drop from (page_of flash page)) (drop from content)

  pub all-same : (same : Bool) → length content ≡ page_words → page_words ≤ place →
      page_has flash page content ≡ (same && rest_same place) → same ≡ page_has flash page content
  all-same same whole end so_far =
      let mine = drop place (page_of flash page) in
      let none : mine ≡ [] = nil_from_length mine (omega (
        arith,
        length-drop place (page_of flash page),
        length-take page_words (drop (page_words * page) flash),
        end,
      )) in
      let other : drop place content ≡ [] = nil_from_length (drop place content) (omega (arith, length-drop place content, whole, end)) in
      sym (so_far ∙ ap (λ (t : Bool). same && t) (ap₂ same_words none other) ∙ and-true same)

  module _ (within : IsWithin flash page) (whole : length content ≡ page_words) (low : place < page_words) where
    abbrev mine : ℕ
    mine = get_or flash (page_words * page + place) 0

    abbrev other : ℕ
    other = get_or content place 0

    one-more : rest_same place ≡ ((mine == other) && rest_same (place + 1))
    one-more =
        ap₂ same_words (drop_more (page_of flash page) place 0 (omega (arith, length-page_of flash page within, low)))
        (drop_more content place 0 (omega (arith, whole, low))) ∙
        ap (λ (word : ℕ). (word == other) && rest_same (place + 1))
        (get_or-take page_words (drop (page_words * page) flash) place 0 low ∙ get_or-drop (page_words * page) flash place 0)

    -- with a word more of the flash
    pub one-on : (same : Bool) (word : ℕ) → word ≡ get_or flash (page_words * page + place) 0 →
        page_has flash page content ≡ (same && rest_same place) →
        page_has flash page content ≡ ((same && (word == get_or content place 0)) && rest_same (place + 1))
    one-on same word is so_far =
        so_far ∙ ap (λ (t : Bool). same && t) one-more ∙ sym (and_assoc same (mine == other) (rest_same (place + 1))) ∙
        ap (λ (w : ℕ). (same && (w == other)) && rest_same (place + 1)) (sym is)
