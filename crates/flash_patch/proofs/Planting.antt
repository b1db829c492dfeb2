-- Pages of a program with a BREAK at each address of a set.
use Rattle.std.proofs.Common.{◌≡◌, ℕ, ◌+◌, ◌*◌, ◌/◌, ◌%◌, ◌<◌, ◌≤◌, ◌==◌, ◌||◌, cond, Bool, true, false, List, [], ◌∷◌, ◌++◌, length, drop}
use Rattle.std.proofs.Common.{get_or, slice_set, refl, sym, ◌∙◌, ap, suc, arith, inl, inr}
use Rattle.std.proofs.lemmas.List.{get_or-take, get_or-drop, get_or-set_same, get_or-set_other, ext_get_or, length-set}
use Rattle.std.proofs.lemmas.Bool.{cases_eq, eqb-true, eqb-false, eq-eqb, ne_eqb, or_from, or_parts, or_right}
use Rattle.part_spec.specs.Chip.{page_words}
use Rattle.part_spec.specs.Pages.{page_of}
use Rattle.part_spec.proofs.PageLemmas.{length-page_of}
use Rattle.debug_spec.specs.Patch.{break_word, has, patched_from, patch}
use Rattle.debug_spec.proofs.Sets.{patch-kept, patch-planted, length-patch}
use Rattle.flash_patch.specs.State.{touches, with_break}

-- nothing is planted
patched-none : (from : ℕ) (words : List ℕ) → patched_from from words [] ≡ words
patched-none from [] = refl
patched-none from (word ∷ words) = ap (λ (t : List ℕ). word ∷ t) (patched-none (suc from) words)

pub patch-none : (prog : List ℕ) → patch prog [] ≡ prog
patch-none prog = patched-none 0 prog

-- one address more
has-push : (set : List ℕ) (a i : ℕ) → has (set ++ a ∷ []) i ≡ (has set i || (i == a))
has-push [] a i = by_test (i == a)
  where
    by_test : (t : Bool) → (t || false) ≡ t
    by_test true = refl
    by_test false = refl
has-push (b ∷ set) a i = by_test (i == b) (has-push set a i)
  where
    by_test : (t : Bool) → has (set ++ a ∷ []) i ≡ (has set i || (i == a)) → (t || has (set ++ a ∷ []) i) ≡ ((t || has set i) || (i == a))
    by_test true later = refl
    by_test false later = later

-- a word of a patch
patch-word : (prog set : List ℕ) (i : ℕ) → i < length prog → get_or (patch prog set) i 0 ≡ cond (has set i) break_word (get_or prog i 0)
patch-word prog set i inside = by_test (has set i) refl
  where
    by_test : (t : Bool) → has set i ≡ t → get_or (patch prog set) i 0 ≡ cond t break_word (get_or prog i 0)
    by_test true e = patch-planted prog set i e inside
    by_test false e = patch-kept prog set i e

-- an address of a page is none of a set that has none there
has-outside : (page : ℕ) (set : List ℕ) (i : ℕ) → i < page_words → touches page set ≡ false → has set (page_words * page + i) ≡ false
has-outside page [] i low none = refl
has-outside page (a ∷ set) i low none =
    let parts = or_parts (a / page_words == page) (touches page set) none in
    or_from (page_words * page + i == a) (has set (page_words * page + i))
    (ne_eqb (page_words * page + i) a (λ here. eqb-false (a / page_words) page parts.0 (omega (arith, here, low))))
    (has-outside page set i low parts.1)

module _ (prog : List ℕ) (page : ℕ) (within : page_words * page + page_words ≤ length prog) where
  -- a word of a page of it
  page-word : (set : List ℕ) (i : ℕ) → i < page_words →
      get_or (page_of (patch prog set) page) i 0 ≡
      cond (has set (page_words * page + i)) break_word (get_or prog (page_words * page + i) 0)
  page-word set i low =
      get_or-take page_words (drop (page_words * page) (patch prog set)) i 0 low ∙ get_or-drop (page_words * page) (patch prog set) i 0 ∙
      patch-word prog set (page_words * page + i) (omega (arith, within, low))

  page-size : (set : List ℕ) → length (page_of (patch prog set) page) ≡ page_words
  page-size set = length-page_of (patch prog set) page (omega (arith, within, length-patch prog set))

  -- a page with no address of the set
  pub page-kept : (set : List ℕ) → touches page set ≡ false → page_of (patch prog set) page ≡ page_of prog page
  page-kept set none =
      ext_get_or 0 (page_of (patch prog set) page) (page_of (patch prog []) page) (page-size set ∙ sym (page-size []))
      (λ i low.
      let low' : i < page_words = omega (arith, low, page-size set) in
      page-word set i low' ∙
      ap (λ (t : Bool). cond t break_word (get_or prog (page_words * page + i) 0)) (has-outside page set i low' none) ∙
      sym (page-word [] i low')) ∙
      ap (λ (words : List ℕ). page_of words page) (patch-none prog)

  module _ (set : List ℕ) (a : ℕ) where
    abbrev old : List ℕ
    old = page_of (patch prog set) page

    abbrev now : List ℕ
    now = page_of (patch prog (set ++ a ∷ [])) page

    -- the words at other addresses, and the word there
    same-word : (i : ℕ) → i < page_words → (page_words * page + i ≡ a → ⊥) → get_or old i 0 ≡ get_or now i 0
    same-word i low apart =
        page-word set i low ∙
        ap (λ (t : Bool). cond t break_word (get_or prog (page_words * page + i) 0))
        (by_test (has set (page_words * page + i)) (page_words * page + i == a) (ne_eqb (page_words * page + i) a apart) ∙
        sym (has-push set a (page_words * page + i))) ∙ sym (page-word (set ++ a ∷ []) i low)
      where
        by_test : (s t : Bool) → t ≡ false → s ≡ (s || t)
        by_test true t e = refl
        by_test false t e = sym e

    new-word : (i : ℕ) → i < page_words → page_words * page + i ≡ a → get_or now i 0 ≡ break_word
    new-word i low here =
        page-word (set ++ a ∷ []) i low ∙
        ap (λ (t : Bool). cond t break_word (get_or prog (page_words * page + i) 0))
        (has-push set a (page_words * page + i) ∙
        or_right (has set (page_words * page + i)) (page_words * page + i == a) (eq-eqb (page_words * page + i) a here))

    pub plant-more : with_break page a (page_of (patch prog set) page) ≡ page_of (patch prog (set ++ a ∷ [])) page
    plant-more = by_place (a / page_words == page) refl
      where
        in_page : (a / page_words ≡ page) → (i : ℕ) → i < page_words →
            get_or (slice_set old (a % page_words) break_word) i 0 ≡ get_or now i 0
        in_page e i low = elim (cases_eq i (a % page_words)) [
          | inl here ↦ ap (λ (k : ℕ). get_or (slice_set old (a % page_words) break_word) k 0) here ∙
              get_or-set_same old (a % page_words) break_word 0 (omega (arith, page-size set, low, here)) ∙
              sym (new-word i low (omega (arith, e, here)))
          | inr apart ↦ get_or-set_other old (a % page_words) i break_word 0 apart ∙
              same-word i low (λ h. apart (omega (arith, h, e, low)))
        ]

        by_place : (t : Bool) → (a / page_words == page) ≡ t → cond t (slice_set old (a % page_words) break_word) old ≡ now
        by_place true e =
            let sized : length (slice_set old (a % page_words) break_word) ≡ page_words =
            length-set old (a % page_words) break_word ∙ page-size set in
            ext_get_or 0 (slice_set old (a % page_words) break_word) now (sized ∙ sym (page-size (set ++ a ∷ [])))
            (λ i low. in_page (eqb-true (a / page_words) page e) i (omega (arith, low, sized)))
        by_place false e =
            ext_get_or 0 old now (page-size set ∙ sym (page-size (set ++ a ∷ [])))
            (λ i low. same-word i (omega (arith, low, page-size set))
            (λ h. eqb-false (a / page_words) page e (omega (arith, h, low, page-size set))))
