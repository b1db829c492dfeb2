-- What the lines of a listing have put so far is the front of the program.
use Rattle.std.proofs.Common.{◌≡◌, ℕ, ◌+◌, ◌-◌, ◌<◌, ◌≤◌, inl, inr, Bool, true, false, cond, List, [], ◌∷◌, length, drop, take, get_or}
use Rattle.std.proofs.Common.{refl, ap, ◌∙◌, arith}
use Rattle.std.specs.Prelude.{nat_le, nat_lt, if◌then◌else◌, count_by, slice_index, None, Result, Ok, Err}
use Rattle.std.proofs.lemmas.Bool.{cases_lt}
use Rattle.std.proofs.lemmas.Bool.Decides.{nat_tests}
use Rattle.std.proofs.lemmas.List.{get_or-drop, get_or-take}
use Rattle.std.proofs.lemmas.List.Sums.{sum_by-cons}
use Rattle.part_spec.specs.Chip.{Chip, words_of}
use Rattle.asm_spec.specs.declared.kind.AsmKind.{AsmKind}
use Rattle.asm_spec.specs.declared.kind.AsmKind.TheVariants.{Place, Overlap}
use Rattle.asm_spec.specs.Listing.{erased}
use Rattle.asm_spec.specs.Reading.{Item, Line, put, reading}
use Rattle.asm_spec.specs.Words.{Entry, Label, Laid, Piece, item_words, laid_on, lines_of, onward, overlaps, pieces_of, size_of, start, used_by}
use Rattle.asm_spec.specs.Words.{with_line, with_order, word_at}
use Rattle.asm_spec.proofs.Tests.{and_both, first_false, second_false}
use Rattle.asm_spec.proofs.Listings.{not_reached, reached}

-- the items put are the words in front of the place reached
pub record Holds (part : Chip) (program : List ℕ) (laid : Laid) : Type 0 where
  pub unlabelled : laid.labels ≡ []
  pub free : (from size : ℕ) → laid.place ≤ from → count_by (overlaps from size) laid.entries ≡ 0
  pub pieces : List Piece
  pub gives : pieces_of part [] laid.entries ≡ Ok pieces
  pub front : (k : ℕ) → k < laid.place → word_at k pieces ≡ slice_index program k
  pub behind : (k : ℕ) → laid.place ≤ k → word_at k pieces ≡ erased
  pub used : used_by pieces ≡ laid.place

pub holds_nothing : (part : Chip) (program : List ℕ) → Holds part program start
holds_nothing part program = record {
  unlabelled = refl;
  free = λ from size low. refl;
  pieces = [];
  gives = refl;
  front = λ k inside. absurd (omega (arith, inside));
  behind = λ k low. refl;
  used = refl;
}

-- with an item more
abbrev pub with_item : (number : ℕ) → Item → Laid → Laid
with_item number item laid = record laid {
  place = laid.place + size_of item;
  entries = record { line = number; place = laid.place; item = item } ∷ laid.entries;
}

-- ---- tests
less : (a b : ℕ) → a < b → nat_lt a b ≡ true
less a b h = grind (arith, nat_tests)

not_less : (a b : ℕ) → b ≤ a → nat_lt a b ≡ false
not_less a b h = grind (arith, nat_tests)

-- ---- an item more
module _ (part : Chip) (program : List ℕ) (laid : Laid) (holds : Holds part program laid) (number : ℕ) (item : Item) (put_words : List ℕ)
    (size : size_of item ≡ length put_words) (own : put_words ≡ take (length put_words) (drop laid.place program))
    (gives : (labels : List Label) (place : ℕ) → item_words part labels place item ≡ Ok put_words) where
  free_more : (from size : ℕ) → laid.place + size_of item ≤ from →
      count_by (overlaps from size) (record { line = number; place = laid.place; item = item } ∷ laid.entries) ≡ 0
  free_more from size low =
      let own : Entry = record { line = number; place = laid.place; item = item } in
      let apart : overlaps from size own ≡ false =
      second_false (nat_lt laid.place (from + size)) (nat_lt from (laid.place + size_of item)) (not_less from (laid.place + size_of item) low) in
      omega (
        arith,
        sum_by-cons (λ other. cond (overlaps from size other) 1 0) own laid.entries,
        ap {B = ℕ} (λ (b : Bool). cond b 1 0) apart,
        holds.free from size (omega arith),
      )

  own_word : (k : ℕ) → laid.place ≤ k → k < laid.place + length put_words → slice_index put_words (k - laid.place) ≡ slice_index program k
  own_word k low high =
      let index : ℕ = k - laid.place in
      let there : laid.place + index ≡ k = omega arith in
      ap (λ (l : List ℕ). get_or l index 0) own ∙ get_or-take (length put_words) (drop laid.place program) index 0 (omega arith) ∙
      get_or-drop laid.place program index 0 ∙ ap (λ (n : ℕ). get_or program n 0) there

  word_in : (k : ℕ) → laid.place ≤ k → k < laid.place + length put_words →
      word_at k (record { place = laid.place; words = put_words } ∷ holds.pieces) ≡ slice_index program k
  word_in k low high =
      ap (λ (b : Bool). if b then slice_index put_words (k - laid.place) else word_at k holds.pieces)
      (and_both (nat_le laid.place k) (nat_lt k (laid.place + length put_words)) (reached laid.place k low) (less k (laid.place + length put_words) high)) ∙
      own_word k low high

  word_before : (k : ℕ) → k < laid.place →
      word_at k (record { place = laid.place; words = put_words } ∷ holds.pieces) ≡ slice_index program k
  word_before k low =
      ap (λ (b : Bool). if b then slice_index put_words (k - laid.place) else word_at k holds.pieces)
      (first_false (nat_le laid.place k) (nat_lt k (laid.place + length put_words)) (not_reached laid.place k low)) ∙ holds.front k low

  word_front : (k : ℕ) → k < laid.place + size_of item →
      word_at k (record { place = laid.place; words = put_words } ∷ holds.pieces) ≡ slice_index program k
  word_front k high = elim (cases_lt k laid.place) [
    | inl before ↦ word_before k before
    | inr after ↦ word_in k after (omega (arith, size, high))
  ]

  word_behind : (k : ℕ) → laid.place + size_of item ≤ k →
      word_at k (record { place = laid.place; words = put_words } ∷ holds.pieces) ≡ erased
  word_behind k low =
      ap (λ (b : Bool). if b then slice_index put_words (k - laid.place) else word_at k holds.pieces)
      (second_false (nat_le laid.place k) (nat_lt k (laid.place + length put_words)) (not_less k (laid.place + length put_words) (omega (arith, size, low)))) ∙
      holds.behind k (omega arith)

  pub holds_more : Holds part program (with_item number item laid)
  holds_more = record {
    unlabelled = holds.unlabelled;
    free = free_more;
    pieces = record { place = laid.place; words = put_words } ∷ holds.pieces;
    gives = rw (holds.gives, gives [] laid.place) refl;
    front = word_front;
    behind = word_behind;
    used = omega (arith, size, holds.used);
  }

  -- the line puts it
  put_more : laid.place + size_of item ≤ words_of part → with_order part number (put item) laid ≡ Ok (with_item number item laid)
  put_more within =
      let clear : nat_lt 0 (count_by (overlaps laid.place (size_of item)) laid.entries) ≡ false =
      ap (nat_lt 0) (holds.free laid.place (size_of item) (omega arith)) in
      ap (λ (b : Bool). if b then Err Place else if nat_lt 0 (count_by (overlaps laid.place (size_of item)) laid.entries) then Err Overlap
      else Ok (with_item number item laid)) (not_less (words_of part) (laid.place + size_of item) within) ∙
      ap (λ (b : Bool). if b then Err Overlap else Ok (with_item number item laid)) clear

  pub laid_more : (line : List ℕ) (lines : List (List ℕ)) → reading part line ≡ Ok (record { label = None; order = put item }) →
      laid.place + size_of item ≤ words_of part →
      laid_on part number laid (line ∷ lines) ≡ laid_on part (number + 1) (with_item number item laid) lines
  laid_more line lines says within =
      ap (λ (r : Result Line AsmKind). onward number r (λ said. onward number (with_line part number said laid)
      (λ more. laid_on part (number + 1) more lines))) says ∙
      ap (λ (r : Result Laid AsmKind). onward number r (λ more. laid_on part (number + 1) more lines)) (put_more within)

-- behind the last line feed stands nothing
pub laid_end : (part : Chip) (number : ℕ) (laid : Laid) → laid_on part number laid (lines_of []) ≡ Ok laid
unfolding reading
laid_end part number laid = refl
