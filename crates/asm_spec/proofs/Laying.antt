-- The lines of a listing, laid one by one.
use Rattle.std.proofs.Common.{◌≡◌, ℕ, zero, suc, ◌+◌, ◌-◌, ◌<◌, ◌≤◌, ◌⊎◌, inl, inr, Bool, true, false, List, ◌∷◌, length, drop, take, get_or}
use Rattle.std.proofs.Common.{refl, sym, ap, ◌∙◌, arith, add-one, drop-cons, length-drop, subst}
use Rattle.std.specs.Prelude.{slice_index, Result, Ok}
use Rattle.std.proofs.lemmas.Bool.{cases_lt}
use Rattle.std.proofs.lemmas.List.{drop_all, get_or-drop, length-take-le}
use Rattle.part_spec.specs.Chip.{Chip, words_of}
use Rattle.avr_spec.specs.Decode.{words}
use Rattle.avr_spec.specs.Text.{text}
use Rattle.asm_spec.specs.Listing.{are_erased, lines_from, shown_at}
use Rattle.asm_spec.specs.ListingLaws.{listed_from}
use Rattle.asm_spec.specs.Words.{Fault, Laid, laid_on, lines_of, size_of}
use Rattle.asm_spec.proofs.Listings.{line_at, no_lines}
use Rattle.asm_spec.proofs.Listed.{listed_at, none_listed, not_erased_before}
use Rattle.asm_spec.proofs.LinesRead.{IsRead, IsShown, is_shown}
use Rattle.asm_spec.proofs.LinesCut.{line_in_front}
use Rattle.asm_spec.proofs.Holding.{Holds, holds_more, laid_end, laid_more, with_item}

-- a word that is not erased stands in front of the end
place_within : (program : List ℕ) (place : ℕ) → are_erased (drop place program) ≡ false → place < length program
place_within program place here = elim (cases_lt place (length program)) [
  | inl within ↦ within
  | inr past ↦ absurd (let never : true ≡ false = sym (ap are_erased (drop_all place program past)) ∙ here in cc)
]

-- the words from a place on
pub words_here : (program : List ℕ) (place : ℕ) → place < length program → slice_index program place ∷ drop (place + 1) program ≡ drop place program
words_here program place within =
    let cut : drop place program ≡ get_or program place 0 ∷ drop (place + 1) program = rw add-one (drop-cons program place 0 within) in sym cut

-- one of the two words in front of a place is not erased, if any is in front of it
abbrev pub EndsNear : (program : List ℕ) (place : ℕ) → Type 0
EndsNear program place = (place ≡ 0) ⊎ (are_erased (drop (place - 2) program) ≡ false)

module _ (part : Chip) (program : List ℕ) (small_part : words_of part ≤ 65536) (whole : length program ≡ words_of part)
    (small : (place : ℕ) → slice_index program place < 65536) where
  -- the lines from a place on were laid
  pub record Laying (from : ℕ) (answer : Result Laid Fault) : Type 0 where
    pub laid : Laid
    pub is : answer ≡ Ok laid
    pub holds : Holds part program laid
    pub listed : laid.place ≡ from + listed_from part 0 (drop from program)
    pub last : EndsNear program laid.place
    pub rest : are_erased (drop laid.place program) ≡ true

  -- what is laid of the lines from the place reached on
  abbrev LaysOn : (fuel : ℕ) → Type 0
  LaysOn fuel = (number : ℕ) (laid : Laid) → Holds part program laid → length program ≤ laid.place + fuel → EndsNear program laid.place →
      Laying laid.place (laid_on part number laid (lines_of (lines_from part 0 (drop laid.place program))))

  -- behind the last line
  lays_end : (number : ℕ) (laid : Laid) → Holds part program laid → EndsNear program laid.place → are_erased (drop laid.place program) ≡ true →
      Laying laid.place (laid_on part number laid (lines_of (lines_from part 0 (drop laid.place program))))
  lays_end number laid holds last rest = record {
    laid = laid;
    is = ap (λ (t : List ℕ). laid_on part number laid (lines_of t)) (no_lines part (drop laid.place program) rest) ∙ laid_end part number laid;
    holds = holds;
    listed = omega (arith, none_listed part (drop laid.place program) rest);
    last = last;
    rest = rest;
  }

  -- ---- the line of a place
  -- the words that the line of a place stands for
  abbrev count_at : (place : ℕ) → ℕ
  count_at place = words (shown_at part program place)

  abbrev words_at : (place : ℕ) → List ℕ
  words_at place = take (count_at place) (slice_index program place ∷ drop (place + 1) program)

  record LineAt (place : ℕ) : Type 0 where
    read : IsRead part (text part (shown_at part program place)) (words_at place)
    size : size_of read.item ≡ count_at place
    own : words_at place ≡ take (length (words_at place)) (drop place program)
    some : 1 ≤ count_at place
    few : count_at place ≤ 2
    inside : place + size_of read.item ≤ words_of part

  line_here : (place : ℕ) → place < length program → LineAt place
  line_here place within =
      let next : slice_index (drop (place + 1) program) 0 < 65536 =
      subst (λ (word : ℕ). word < 65536) (sym (get_or-drop (place + 1) program 0 0)) (small (place + 1 + 0)) in
      let shows : IsShown part (slice_index program place) (drop (place + 1) program) =
      is_shown part small_part (slice_index program place) (drop (place + 1) program) (small place) next in
      let behind : length (drop (place + 1) program) ≡ length program - (place + 1) = length-drop (place + 1) program in
      let left : count_at place ≤ length (slice_index program place ∷ drop (place + 1) program) = omega (arith, shows.fits) in
      let long : length (words_at place) ≡ count_at place =
      length-take-le (count_at place) (slice_index program place ∷ drop (place + 1) program) left in
      let size : size_of shows.read.item ≡ count_at place = shows.read.size ∙ long in
      record {
        read = shows.read;
        size = size;
        own =
            ap (take (count_at place)) (words_here program place within) ∙
            ap (λ (n : ℕ). take n (drop place program)) (sym long);
        some = shows.some;
        few = shows.few;
        inside = omega (arith, whole, size, shows.fits, behind, within);
      }

  -- the line of a place and those behind it
  lines_here : (place : ℕ) → place < length program → are_erased (drop place program) ≡ false → (line : LineAt place) →
      lines_of (lines_from part 0 (drop place program)) ≡
      text part (shown_at part program place) ∷ lines_of (lines_from part 0 (drop (place + size_of line.read.item) program))
  lines_here place within here line =
      ap lines_of (line_at part program place within here line.some) ∙
      line_in_front (text part (shown_at part program place)) (lines_from part 0 (drop (place + count_at place) program)) line.read.whole ∙
      ap (λ (n : ℕ). text part (shown_at part program place) ∷ lines_of (lines_from part 0 (drop (place + n) program))) (sym line.size)

  listed_here : (place : ℕ) → place < length program → are_erased (drop place program) ≡ false → (line : LineAt place) →
      listed_from part 0 (drop place program) ≡
      size_of line.read.item + listed_from part 0 (drop (place + size_of line.read.item) program)
  listed_here place within here line =
      listed_at part program place within here line.some ∙
      ap (λ (n : ℕ). n + listed_from part 0 (drop (place + n) program)) (sym line.size)

  lays_line : (fuel : ℕ) → LaysOn fuel → (number : ℕ) (laid : Laid) → Holds part program laid → length program ≤ laid.place + suc fuel →
      are_erased (drop laid.place program) ≡ false →
      Laying laid.place (laid_on part number laid (lines_of (lines_from part 0 (drop laid.place program))))
  lays_line fuel later number laid holds long here =
      let within : laid.place < length program = place_within program laid.place here in
      let line : LineAt laid.place = line_here laid.place within in
      let next : Laid = with_item number line.read.item laid in
      let held : Holds part program next =
      holds_more part program laid holds number line.read.item (words_at laid.place) line.read.size line.own line.read.gives in
      let near : are_erased (drop (laid.place + size_of line.read.item - 2) program) ≡ false =
      not_erased_before program laid.place (laid.place + size_of line.read.item - 2) (omega (arith, line.size, line.few)) here in
      let after = later (number + 1) next held (omega (arith, line.size, line.some, long)) (inr near) in
      record {
        laid = after.laid;
        is =
            ap (laid_on part number laid) (lines_here laid.place within here line) ∙
            laid_more part program laid holds number line.read.item (words_at laid.place) line.read.size line.own line.read.gives
            (text part (shown_at part program laid.place))
            (lines_of (lines_from part 0 (drop (laid.place + size_of line.read.item) program))) line.read.says line.inside ∙ after.is;
        holds = after.holds;
        listed = omega (arith, after.listed, listed_here laid.place within here line);
        last = after.last;
        rest = after.rest;
      }

  pub lays_on : (fuel : ℕ) → LaysOn fuel
  lays_on zero number laid holds long last = lays_end number laid holds last (ap are_erased (drop_all laid.place program (omega arith)))
  lays_on (suc fuel) number laid holds long last = by_erased (lays_on fuel) (are_erased (drop laid.place program)) refl
    where
      by_erased : LaysOn fuel → (b : Bool) → are_erased (drop laid.place program) ≡ b →
          Laying laid.place (laid_on part number laid (lines_of (lines_from part 0 (drop laid.place program))))
      by_erased later true is = lays_end number laid holds last is
      by_erased later false is = lays_line fuel later number laid holds long is
