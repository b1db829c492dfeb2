-- The words of what was put, piece by piece.
use Rattle.std.proofs.Common.{◌≡◌, ◌≢◌, ℕ, zero, suc, ◌+◌, ◌-◌, ◌<◌, ◌≤◌, ◌&&◌, ◌⊎◌, inl, inr, Bool, true, false, nat_le, nat_lt, List, [], ◌∷◌, ◌++◌, length, get_or, map, take, drop, set, replicate, refl, sym, ap, ◌∙◌, subst, arith}
use Rattle.std.proofs.lemmas.Bool.{cases_order}
use Rattle.std.proofs.lemmas.Bool.Decides.{nat_tests}
use Rattle.std.specs.Prelude.{if◌then◌else◌, max, reverse, Ok, Err}
use Rattle.std.proofs.lemmas.List.{ext_get_or, get_or-set_same, get_or-set_other, get_or-replicate, length-set, length-replicate, map-append, reverse-append, take-append-drop, take_more}
use Rattle.part_spec.specs.Chip.{Chip, words_of}
use Rattle.asm_spec.specs.declared.kind.AsmKind.{AsmKind}
use Rattle.asm_spec.specs.Words.{Entry, Fault, Label, Piece, item_words, pieces_of, word_at, words_from}
use Rattle.avr_asm.specs.declared.sheet.Entry.{Entry as HeldEntry}
use Rattle.avr_asm.specs.Encodings.{FitEntries, FitsEntry}
use Rattle.avr_asm.specs.Settled.{IsFilled, with_piece}
use Rattle.avr_asm.specs.Sheets.{entries_told, entry_told}
use Rattle.avr_asm.proofs.Laying.{entries_more}

-- ---- words of pieces
pub words_length : (pieces : List Piece) (place count : ℕ) → length (words_from pieces place count) ≡ count
words_length pieces place zero = refl
words_length pieces place (suc count) = ap suc (words_length pieces (place + 1) count)

words_at : (pieces : List Piece) (place count k : ℕ) → k < count → get_or (words_from pieces place count) k 0 ≡ word_at (place + k) pieces
words_at pieces place zero k inside = absurd (omega arith)
words_at pieces place (suc count) zero inside = ap (λ (n : ℕ). word_at n pieces) (let e : place ≡ place + 0 = omega arith in e)
words_at pieces place (suc count) (suc k) inside =
    words_at pieces (place + 1) count k (omega arith) ∙ ap (λ (n : ℕ). word_at n pieces) (let e : place + 1 + k ≡ place + suc k = omega arith in e)

words_first : (pieces : List Piece) (count k : ℕ) → k < count → get_or (words_from pieces 0 count) k 0 ≡ word_at k pieces
words_first pieces count k inside = words_at pieces 0 count k inside ∙ ap (λ (n : ℕ). word_at n pieces) (let e : 0 + k ≡ k = omega arith in e)

pub none_yet : (count : ℕ) → replicate count 0xffff ≡ words_from [] 0 count
none_yet count =
    ext_get_or 0 (replicate count 0xffff) (words_from [] 0 count) (length-replicate {A = ℕ} count 0xffff ∙ sym (words_length [] 0 count))
    (λ k h. let inside : k < count = omega (arith, h, length-replicate {A = ℕ} count 0xffff) in
    get_or-replicate count k 0xffff 0 inside ∙ sym (words_first [] count k inside))

-- words with those of a piece, at a place
piece_length : (piece words : List ℕ) (place : ℕ) → length (with_piece place piece words) ≡ length words
piece_length [] words place = refl
piece_length (word ∷ piece) words place = piece_length piece (set words place word) (place + 1) ∙ length-set words place word

-- what the word at a place is, with those of a piece behind one put before
abbrev PieceAt : (word : ℕ) → (piece words : List ℕ) → (place k : ℕ) → Type 0
PieceAt word piece words place k =
    (if nat_le (place + 1) k && nat_lt k (place + 1 + length piece) then get_or piece (k - (place + 1)) 0 else get_or (set words place word) k 0)
    ≡ (if nat_le place k && nat_lt k (place + length (word ∷ piece)) then get_or (word ∷ piece) (k - place) 0 else get_or words k 0)

before_at : (word : ℕ) (piece words : List ℕ) (place k : ℕ) → k < place → PieceAt word piece words place k
before_at word piece words place k h =
    let one : nat_le (place + 1) k ≡ false = grind (arith, nat_tests) in
    let two : nat_le place k ≡ false = grind (arith, nat_tests) in
    let apart : k ≢ place = omega arith in
    rw one (rw two (get_or-set_other words place k word 0 apart))

here_at : (word : ℕ) (piece words : List ℕ) (place k : ℕ) → place < length words → k ≡ place → PieceAt word piece words place k
here_at word piece words place k inside h =
    let one : nat_le (place + 1) k ≡ false = grind (arith, nat_tests) in
    let two : nat_le place k ≡ true = grind (arith, nat_tests) in
    let three : nat_lt k (place + length (word ∷ piece)) ≡ true = grind (arith, nat_tests) in
    let first : k - place ≡ 0 = omega arith in
    rw one (rw two (rw three (
    ap (λ (n : ℕ). get_or (set words place word) n 0) h ∙ get_or-set_same words place word 0 inside
    ∙ sym (ap (λ (n : ℕ). get_or (word ∷ piece) n 0) first))))

behind_at : (word : ℕ) (piece words : List ℕ) (place k : ℕ) → place < k → PieceAt word piece words place k
behind_at word piece words place k h =
    let one : nat_le (place + 1) k ≡ true = grind (arith, nat_tests) in
    let two : nat_le place k ≡ true = grind (arith, nat_tests) in
    let three : nat_lt k (place + 1 + length piece) ≡ nat_lt k (place + length (word ∷ piece)) =
    ap (λ (n : ℕ). nat_lt k n) (let e : place + 1 + length piece ≡ place + length (word ∷ piece) = omega arith in e) in
    let apart : k ≢ place = omega arith in
    let next : k - place ≡ suc (k - (place + 1)) = omega arith in
    rw one (rw two (
    ap (λ (b : Bool). if b then get_or piece (k - (place + 1)) 0 else get_or (set words place word) k 0) three
    ∙ ap (λ (n : ℕ). if nat_lt k (place + length (word ∷ piece)) then n else get_or (set words place word) k 0)
    (sym (ap (λ (n : ℕ). get_or (word ∷ piece) n 0) next))
    ∙ ap (λ (n : ℕ). if nat_lt k (place + length (word ∷ piece)) then get_or (word ∷ piece) (k - place) 0 else n)
    (get_or-set_other words place k word 0 apart)))

all_at : (word : ℕ) (piece words : List ℕ) (place k : ℕ) → place < length words → PieceAt word piece words place k
all_at word piece words place k inside = by_order (cases_order k place)
  where
    by_order : (k ≡ place) ⊎ ((k < place) ⊎ (place < k)) → PieceAt word piece words place k
    by_order (inl h) = here_at word piece words place k inside h
    by_order (inr (inl h)) = before_at word piece words place k h
    by_order (inr (inr h)) = behind_at word piece words place k h

piece_at : (piece words : List ℕ) (place k : ℕ) → place + length piece ≤ length words →
    get_or (with_piece place piece words) k 0
    ≡ (if nat_le place k && nat_lt k (place + length piece) then get_or piece (k - place) 0 else get_or words k 0)
piece_at [] words place k within =
    let never : (nat_le place k && nat_lt k (place + 0)) ≡ false = grind (arith, nat_tests) in
    sym (rw never refl)
piece_at (word ∷ piece) words place k within =
    piece_at piece (set words place word) (place + 1) k (omega (arith, length-set words place word))
    ∙ all_at word piece words place k (omega arith)

-- with a piece more
pub words_more : (pieces : List Piece) (place count : ℕ) (piece words : List ℕ) → place + length piece ≤ count → words ≡ words_from pieces 0 count →
    with_piece place piece words ≡ words_from (record { place = place; words = piece } ∷ pieces) 0 count
words_more pieces place count piece words within are =
    ext_get_or 0 (with_piece place piece words) (words_from (record { place = place; words = piece } ∷ pieces) 0 count)
    (piece_length piece words place ∙ long ∙ sym (words_length (record { place = place; words = piece } ∷ pieces) 0 count))
    (λ k h. let inside : k < count = omega (arith, h, piece_length piece words place, long) in
    piece_at piece words place k (omega (arith, long))
    ∙ ap (λ (n : ℕ). if nat_le place k && nat_lt k (place + length piece) then get_or piece (k - place) 0 else n)
    (ap (λ (l : List ℕ). get_or l k 0) are ∙ words_first pieces count k inside)
    ∙ sym (words_first (record { place = place; words = piece } ∷ pieces) count k inside))
  where
    long : length words ≡ count
    long = ap length are ∙ words_length pieces 0 count

-- ---- pieces of entries
module _ (part : Chip) (labels : List Label) where
  pub wrong_stays : (later earlier : List Entry) (fault : Fault) → pieces_of part labels earlier ≡ Err fault →
      pieces_of part labels (later ++ earlier) ≡ Err fault
  wrong_stays [] earlier fault is = is
  wrong_stays (entry ∷ later) earlier fault is = rw (wrong_stays later earlier fault is) refl

  pub pieces_next : (entry : Entry) (earlier : List Entry) (pieces : List Piece) (words : List ℕ) → pieces_of part labels earlier ≡ Ok pieces →
      item_words part labels entry.place entry.item ≡ Ok words →
      pieces_of part labels (entry ∷ earlier) ≡ Ok (record { place = entry.place; words = words } ∷ pieces)
  pieces_next entry earlier pieces words are is = rw are (rw is refl)

  pub pieces_wrong : (entry : Entry) (earlier : List Entry) (pieces : List Piece) (kind : AsmKind) → pieces_of part labels earlier ≡ Ok pieces →
      item_words part labels entry.place entry.item ≡ Err kind →
      pieces_of part labels (entry ∷ earlier) ≡ Err (record { line = entry.line; kind = kind })
  pieces_wrong entry earlier pieces kind are is = rw are (rw is refl)

-- entries up to a place, and those behind it
pub entries_split : (items : List HeldEntry) (i : ℕ) → entries_told items ≡ entries_told (drop i items) ++ entries_told (take i items)
entries_split items i =
    ap entries_told (sym (take-append-drop i items)) ∙ ap reverse (map-append entry_told (take i items) (drop i items))
    ∙ reverse-append (map entry_told (take i items)) (map entry_told (drop i items))

pub entries_to : (items : List HeldEntry) (i : ℕ) (d : HeldEntry) → i < length items →
    entries_told (take (i + 1) items) ≡ entry_told (get_or items i d) ∷ entries_told (take i items)
entries_to items i d inside = ap entries_told (take_more items i d inside) ∙ entries_more (take i items) (get_or items i d)

fit_at : (part : Chip) (later : List Entry) (entry : Entry) (earlier : List Entry) → FitEntries part (later ++ entry ∷ earlier) → FitsEntry part entry
fit_at part [] entry earlier fit = fit.0
fit_at part (first ∷ later) entry earlier fit = fit_at part later entry earlier fit.1

pub fits_here : (part : Chip) (items : List HeldEntry) (i : ℕ) (d : HeldEntry) → i < length items → FitEntries part (entries_told items) →
    FitsEntry part (entry_told (get_or items i d))
fits_here part items i d inside fit =
    fit_at part (entries_told (drop (i + 1) items)) (entry_told (get_or items i d)) (entries_told (take i items))
    (subst (FitEntries part)
    (entries_split items (i + 1) ∙ ap (λ (l : List Entry). entries_told (drop (i + 1) items) ++ l) (entries_to items i d inside)) fit)

module _ (part : Chip) (labels : List Label) (items : List HeldEntry) (i : ℕ) (d : HeldEntry) (inside : i < length items)
    (used : ℕ) (words : List ℕ) (filled : IsFilled part used words (pieces_of part labels (entries_told (take i items)))) where
  -- an entry whose label is missing or too far
  pub filled_wrong : (kind : AsmKind) → Err kind ≡ item_words part labels (get_or items i d).place (entry_told (get_or items i d)).item →
      pieces_of part labels (entries_told items) ≡ Err (record { line = (get_or items i d).line; kind = kind })
  filled_wrong kind is =
      ap (pieces_of part labels) (entries_split items (i + 1))
      ∙ wrong_stays part labels (entries_told (drop (i + 1) items)) (entries_told (take (i + 1) items))
      (record { line = (get_or items i d).line; kind = kind })
      (ap (pieces_of part labels) (entries_to items i d inside)
      ∙ pieces_wrong part labels (entry_told (get_or items i d)) (entries_told (take i items)) filled.pieces kind filled.are (sym is))

  -- the words of an entry more
  pub filled_more : (piece more : List ℕ) (behind now : ℕ) →
      Ok piece ≡ item_words part labels (get_or items i d).place (entry_told (get_or items i d)).item →
      (get_or items i d).place + length piece ≤ words_of part → more ≡ with_piece (get_or items i d).place piece words →
      behind ≡ (get_or items i d).place + length piece → now ≡ max behind used →
      IsFilled part now more (pieces_of part labels (entries_told (take (i + 1) items)))
  filled_more piece more behind now is within put past highest = record {
    pieces = record { place = (get_or items i d).place; words = piece } ∷ filled.pieces;
    are = ap (pieces_of part labels) (entries_to items i d inside)
        ∙ pieces_next part labels (entry_told (get_or items i d)) (entries_told (take i items)) filled.pieces piece filled.are (sym is);
    words_are = put ∙ words_more filled.pieces (get_or items i d).place (words_of part) piece words within filled.words_are;
    used_are = highest ∙ ap (λ (n : ℕ). max n used) past ∙ ap (λ (n : ℕ). max ((get_or items i d).place + length piece) n) filled.used_are;
  }
