-- A listing, assembled, gives its program.
use Rattle.std.proofs.Common.{◌≡◌, ℕ, zero, suc, ◌+◌, ◌-◌, ◌<◌, ◌≤◌, inl, inr, true, List, [], ◌∷◌, length, drop, get_or, refl, sym, ap, ◌∙◌, arith, length-drop, subst, eqb-true}
use Rattle.std.specs.Prelude.{◌==◌, slice_index, Ok}
use Rattle.std.specs.List.{All}
use Rattle.std.proofs.lemmas.Bool.{cases_lt}
use Rattle.std.proofs.lemmas.List.{drop_all, get_or-drop, get_or_past}
use Rattle.std.proofs.lemmas.List.Elements.{All-get_or}
use Rattle.part_spec.specs.Chip.{Chip, chip_of, words_of}
use Rattle.part_spec.specs.declared.part.Part.{Part}
use Rattle.part_spec.specs.declared.part.Part.TheVariants.{M16, M32}
use Rattle.asm_spec.specs.Listing.{are_erased, erased, listing}
use Rattle.asm_spec.specs.Words.{Label, Laid, Piece, assembly, flash_of, laid_on, lines_of, pieces_of, settled, start, used_by, word_at, words_from}
use Rattle.asm_spec.specs.ListingLaws.{GivesProgram, ListingsGiveTheirPrograms, listed}
use Rattle.asm_spec.proofs.Tests.{and_parts}
use Rattle.asm_spec.proofs.Holding.{Holds, holds_nothing}
use Rattle.asm_spec.proofs.Laying.{EndsNear, Laying, lays_on, words_here}

-- an erased word
erased_at : (list : List ℕ) (index : ℕ) → are_erased list ≡ true → index < length list → slice_index list index ≡ erased
erased_at [] index all inside = absurd (omega (arith, inside))
erased_at (word ∷ list) zero all inside = eqb-true word 0xffff (and_parts (word == erased) (are_erased list) all).0
erased_at (word ∷ list) (suc index) all inside = erased_at list index (and_parts (word == erased) (are_erased list) all).1 (omega (arith, inside))

-- each word of the flash is that of the program
word_same : (part : Chip) (program : List ℕ) (laid : Laid) (holds : Holds part program laid) → are_erased (drop laid.place program) ≡ true →
    (k : ℕ) → k < length program → word_at k holds.pieces ≡ slice_index program k
word_same part program laid holds rest k within = elim (cases_lt k laid.place) [
  | inl before ↦ holds.front k before
  | inr after ↦
      let index : ℕ = k - laid.place in
      let there : laid.place + index ≡ k = omega arith in
      let found : slice_index (drop laid.place program) index ≡ erased =
      erased_at (drop laid.place program) index rest (omega (arith, length-drop laid.place program)) in
      holds.behind k after ∙ sym found ∙ get_or-drop laid.place program index 0 ∙ ap (λ (n : ℕ). get_or program n 0) there
]

-- and so are all from a place on
words_same : (program : List ℕ) (pieces : List Piece) → ((k : ℕ) → k < length program → word_at k pieces ≡ slice_index program k) →
    (count place : ℕ) → place + count ≡ length program → words_from pieces place count ≡ drop place program
words_same program pieces same zero place is = sym (drop_all place program (omega (arith, is)))
words_same program pieces same (suc count) place is =
    let within : place < length program = omega (arith, is) in
    ap (λ (word : ℕ). word ∷ words_from pieces (place + 1) count) (same place within) ∙
    ap (λ (rest : List ℕ). slice_index program place ∷ rest) (words_same program pieces same count (place + 1) (omega (arith, is))) ∙
    words_here program place within

module _ (part : Chip) (program : List ℕ) (small_part : words_of part ≤ 65536) (whole : length program ≡ words_of part)
    (small : (place : ℕ) → slice_index program place < 65536) where
  given : Laying part program small_part whole small 0 (laid_on part 1 start (lines_of (listing part program))) → GivesProgram part program
  unfolding assembly
  given laying =
      let pieces : List Piece = laying.holds.pieces in
      let used : laying.laid.place ≡ listed part program = omega (arith, laying.listed) in
      let made : words_from pieces 0 (words_of part) ≡ program =
      words_same program pieces (word_same part program laying.laid laying.holds laying.rest) (words_of part) 0 (omega (arith, whole)) in
      let put_pieces : pieces_of part laying.laid.labels laying.laid.entries ≡ Ok pieces =
      ap (λ (labels : List Label). pieces_of part labels laying.laid.entries) laying.holds.unlabelled ∙ laying.holds.gives in
      record {
        gives =
            ap (settled part) laying.is ∙ ap (flash_of part) put_pieces ∙
            ap (λ (words : List ℕ). Ok (record { words = words; used = used_by pieces })) made ∙
            ap (λ (n : ℕ). Ok (record { words = program; used = n })) (laying.holds.used ∙ used);
        rest = ap (λ (n : ℕ). are_erased (drop n program)) (sym used) ∙ laying.rest;
        last = subst (EndsNear program) used laying.last;
      }

  pub chip_gives : GivesProgram part program
  chip_gives = given (lays_on part program small_part whole small (length program) 1 start (holds_nothing part program) (omega arith) (inl refl))

small_chip : (part : Part) → words_of (chip_of part) ≤ 65536
small_chip M16 = omega arith
small_chip M32 = omega arith

all_small : (program : List ℕ) → All (λ word. word < 65536) program → (place : ℕ) → slice_index program place < 65536
all_small program all place = elim (cases_lt place (length program)) [
  | inl within ↦ All-get_or (λ word. word < 65536) program place 0 within all
  | inr past ↦ subst (λ (word : ℕ). word < 65536) (sym (get_or_past program place 0 past)) (omega arith)
]

pub listings_give : ListingsGiveTheirPrograms
listings_give part program whole all = chip_gives (chip_of part) program (small_chip part) whole (all_small program all)
