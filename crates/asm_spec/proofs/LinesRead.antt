-- The line of a listing is read as an item with the words that the line stands for.
use Rattle.std.proofs.Common.{◌≡◌, ℕ, zero, suc, ◌+◌, ◌<◌, ◌≤◌, ◌||◌, ◌==◌, ◌⊎◌, inl, inr, Bool, true, false, List, [], ◌∷◌, length, map, take, slice_get}
use Rattle.std.proofs.Common.{refl, sym, ap, ◌∙◌, arith, subst}
use Rattle.std.specs.Prelude.{codes, not, nat_le, nat_lt, if◌then◌else◌, slice_index, None, Some, Ok, Err}
use Rattle.std.specs.List.{list_all}
use Rattle.std.proofs.lemmas.Bool.Decides.{nat_tests}
use Rattle.std.proofs.lemmas.List.{length-map}
use Rattle.part_spec.specs.Chip.{Chip, words_of}
use Rattle.avr_spec.specs.declared.instruction.Instr.{Instr}
use Rattle.avr_spec.specs.declared.instruction.Instr.TheVariants.{Lds, Sts, Jmp, Call, Undefined}
use Rattle.avr_spec.specs.Table.{Row, table}
use Rattle.avr_spec.specs.Decode.{bits, blank, decode, field_of, fits, words}
use Rattle.avr_spec.specs.Text.{text, hex_word}
use Rattle.avr_spec.specs.Laws.{HasRow, HasNone}
use Rattle.avr_spec.proofs.RowLemmas.{each_word_decodes}
use Rattle.asm_spec.specs.declared.kind.AsmKind.TheVariants.{Value}
use Rattle.asm_spec.specs.Forms.{Form, form_text, forms, joined, printed}
use Rattle.asm_spec.specs.Listing.{leads_out, shown, shown_of}
use Rattle.asm_spec.specs.Tokens.{number}
use Rattle.asm_spec.specs.Reading.{Item, plain, coded, put, labelled, limit_of, of_number, plain_word, reading}
use Rattle.asm_spec.specs.Words.{Label, item_words, size_of, word_of}
use Rattle.asm_spec.proofs.Tests.{and_both}
use Rattle.asm_spec.proofs.WordLetters.{field_below, is_word_of_letters, word_back}
use Rattle.asm_spec.proofs.RowForms.{form_at, rows, rows_are_words, same_at, true_at}
use Rattle.asm_spec.proofs.FieldWords.{item_gives, item_size, meant_by}
use Rattle.asm_spec.proofs.CleanTexts.{is_clean_text}
use Rattle.asm_spec.proofs.HexDigits.{hex_word_back, hex_word_clean}
use Rattle.asm_spec.proofs.OperandsBack.{entry_back, reads_back, rows_read_back}
use Rattle.asm_spec.proofs.MeaningsBack.{all_inside, meanings_back, texts_clean}
use Rattle.asm_spec.proofs.RowLookup.{row_says}
use Rattle.asm_spec.proofs.Trims.{is_plain_byte, line_plain, line_says}

-- a line is read as an item with these words
pub record IsRead (part : Chip) (line : List ℕ) (put_words : List ℕ) : Type 0 where
  pub item : Item
  pub says : reading part line ≡ Ok (record { label = None; order = put item })
  pub size : size_of item ≡ length put_words
  pub gives : (labels : List Label) (place : ℕ) → item_words part labels place item ≡ Ok put_words
  pub whole : list_all is_plain_byte line ≡ true

-- ---- a word by its number
word_number : (word : ℕ) → word < 65536 → of_number plain_word (number (hex_word word)) ≡ Ok (put (plain word))
word_number word small =
    let fits : nat_lt word 0x10000 ≡ true = grind (arith, nat_tests) in
    ap (of_number plain_word) (hex_word_back word small) ∙ ap (λ (b : Bool). if b then Ok (put (plain word)) else Err Value) fits

pub word_is_read : (part : Chip) (word : ℕ) → word < 65536 → IsRead part (text part (Undefined word)) (word ∷ [])
unfolding text
word_is_read part word small =
    let clean : list_all is_clean_text (hex_word word ∷ []) ≡ true = and_both (is_clean_text (hex_word word)) true (hex_word_clean word) refl in
    record {
      item = plain word;
      says =
          line_says part (codes ".word") refl (hex_word word ∷ []) (omega arith) clean ∙ ap (labelled None) (word_number word small);
      size = refl;
      gives = λ labels place. refl;
      whole = line_plain part (codes ".word") refl (hex_word word ∷ []) (omega arith) clean;
    }

-- ---- an instruction of a row
texts_are : (part : Chip) (fields : ℕ → ℕ) (second : ℕ) →
    map (λ (entry : Row × Form). text part (entry.0.instr fields second)) rows ≡
    map (λ (entry : Row × Form). form_text part fields second entry.1) rows
unfolding text
texts_are part fields second = refl

insides_are : (part : Chip) (fields : ℕ → ℕ) (second : ℕ) →
    map (λ (entry : Row × Form). all_inside part fields second entry.1.operands) rows ≡
    map (λ (entry : Row × Form). not (leads_out part (entry.0.instr fields second))) rows
insides_are part fields second = refl

names_clean : list_all (λ (entry : Row × Form). is_clean_text entry.1.name) rows ≡ true
names_clean = refl

operands_few : list_all (λ (entry : Row × Form). nat_le (length entry.1.operands) 2) rows ≡ true
operands_few = refl

within_rows : (list : List (Row × Form)) (index : ℕ) (entry : Row × Form) → slice_get list index ≡ Some entry → index < length list
within_rows [] index entry there = absurd (cc)
within_rows (first ∷ list) zero entry there = omega arith
within_rows (first ∷ list) (suc index) entry there = let more = within_rows list index entry there in omega arith

one_or_two : (instr : Instr) → (words instr ≡ 1) ⊎ (words instr ≡ 2)
one_or_two (Lds d address) = inr refl
one_or_two (Sts r address) = inr refl
one_or_two (Jmp k) = inr refl
one_or_two (Call k) = inr refl
one_or_two _ = inl refl

two_taken : (instr : Instr) (first second : ℕ) → length (take (words instr) (first ∷ second ∷ [])) ≡ words instr
two_taken instr first second = by_words (words instr) (one_or_two instr)
  where
    by_words : (n : ℕ) → (n ≡ 1) ⊎ (n ≡ 2) → length (take n (first ∷ second ∷ [])) ≡ n
    by_words n (inl one) = rw one refl
    by_words n (inr two) = rw two refl

module _ (part : Chip) (small_part : words_of part ≤ 65536) (first second : ℕ) (small_first : first < 65536) (small : second < 65536)
    (row : Row) (form : Form) (index : ℕ) (there : slice_get rows index ≡ Some (row, form)) where
  fields : ℕ → ℕ
  fields = field_of row.letters first

  pub entry_is_read : leads_out part (row.instr (field_of row.letters first) second) ≡ false → fits row.letters (bits first) ≡ true →
      IsRead part (text part (row.instr (field_of row.letters first) second)) (take (words (row.instr (field_of row.letters first) second)) (first ∷ second ∷ []))
  unfolding fields
  entry_is_read stays fixed =
      let entry : Row × Form = (row, form) in
      let instr : Instr = row.instr fields second in
      let texts : List (List ℕ) = map (printed part fields second) form.operands in
      let letters : is_word_of_letters row.letters ≡ true =
      true_at (λ (e : Row × Form). is_word_of_letters e.0.letters) rows rows_are_words index entry there in
      let below : (letter : ℕ) → (letter == blank) ≡ false → fields letter < limit_of row.letters letter =
      λ letter plain. field_below row.letters first letter plain letters in
      let reads : list_all (reads_back row.letters) form.operands ≡ true = true_at entry_back rows rows_read_back index entry there in
      let inside : all_inside part fields second form.operands ≡ true =
      same_at (λ (e : Row × Form). all_inside part fields second e.1.operands) (λ (e : Row × Form). not (leads_out part (e.0.instr fields second)))
      rows (insides_are part fields second) index entry there ∙ ap not stays in
      let name : is_clean_text form.name ≡ true = true_at (λ (e : Row × Form). is_clean_text e.1.name) rows names_clean index entry there in
      let few_test : nat_le (length form.operands) 2 ≡ true =
      true_at (λ (e : Row × Form). nat_le (length e.1.operands) 2) rows operands_few index entry there in
      let few_operands : length form.operands ≤ 2 = grind (arith, nat_tests) in
      let few : length texts ≤ 2 = omega (arith, length-map form.operands (printed part fields second)) in
      let clean : list_all is_clean_text texts ≡ true =
      texts_clean part small_part row.letters fields second small below form.operands reads inside in
      let means = meanings_back part small_part row.letters fields second small below form.operands reads inside in
      let line : text part instr ≡ joined form.name texts =
      same_at (λ (e : Row × Form). text part (e.0.instr fields second)) (λ (e : Row × Form). form_text part fields second e.1)
      rows (texts_are part fields second) index entry there in
      let word : word_of row.letters fields ≡ first = word_back row.letters first small_first letters fixed in
      record {
        item = coded row.letters (map (meant_by fields second) form.operands);
        says =
            ap (reading part) line ∙ line_says part form.name name texts few clean ∙
            ap (labelled None) (row_says part fields second index entry there (within_rows rows index entry there) means);
        size = item_size fields second index entry there ∙ sym (two_taken instr first second);
        gives = λ labels place.
            item_gives fields second index entry there part labels place small ∙
            ap (λ (w : ℕ). Ok (take (words instr) (w ∷ second ∷ []))) word;
        whole = ap (list_all is_plain_byte) line ∙ line_plain part form.name name texts few clean;
      }

-- a word of a row, with the word behind it
pub row_is_read : (part : Chip) → words_of part ≤ 65536 → (first second : ℕ) → first < 65536 → second < 65536 → HasRow first →
    leads_out part (decode first second) ≡ false →
    IsRead part (text part (decode first second)) (take (words (decode first second)) (first ∷ second ∷ []))
row_is_read part small_part first second small_first small h stays =
    let form = form_at table forms refl h.index h.row h.there in
    let is : decode first second ≡ h.row.instr (field_of h.row.letters first) second = h.says second in
    subst (λ (instr : Instr). IsRead part (text part instr) (take (words instr) (first ∷ second ∷ []))) (sym is)
    (entry_is_read part small_part first second small_first small h.row form.0 h.index form.1 (sym (ap (leads_out part) is) ∙ stays) h.fixed)

-- ---- what is shown of a place
-- the words that are shown are the words there
taken_same : (instr : Instr) (first : ℕ) (behind : List ℕ) → words instr ≤ 1 + length behind →
    take (words instr) (first ∷ slice_index behind 0 ∷ []) ≡ take (words instr) (first ∷ behind)
taken_same instr first behind fits = by_words (words instr) (one_or_two instr) behind fits
  where
    by_words : (n : ℕ) → (n ≡ 1) ⊎ (n ≡ 2) → (behind : List ℕ) → n ≤ 1 + length behind →
        take n (first ∷ slice_index behind 0 ∷ []) ≡ take n (first ∷ behind)
    by_words n (inl one) behind fits = rw one refl
    by_words n (inr two) [] fits = absurd (omega (arith, two, fits))
    by_words n (inr two) (second ∷ behind) fits = rw two refl

-- a word that is shown as it is decoded
decoded_is_read : (part : Chip) → words_of part ≤ 65536 → (first : ℕ) (behind : List ℕ) → first < 65536 → slice_index behind 0 < 65536 →
    leads_out part (decode first (slice_index behind 0)) ≡ false → words (decode first (slice_index behind 0)) ≤ 1 + length behind →
    IsRead part (text part (decode first (slice_index behind 0))) (take (words (decode first (slice_index behind 0))) (first ∷ behind))
decoded_is_read part small_part first behind small_first small stays fits =
    subst (λ (l : List ℕ). IsRead part (text part instr) l) (taken_same instr first behind fits) (by_row (each_word_decodes first))
  where
    second : ℕ
    second = slice_index behind 0

    instr : Instr
    instr = decode first (slice_index behind 0)

    by_row : HasRow first ⊎ HasNone first → IsRead part (text part instr) (take (words instr) (first ∷ slice_index behind 0 ∷ []))
    by_row (inl h) = row_is_read part small_part first (slice_index behind 0) small_first small h stays
    by_row (inr h) =
        subst (λ (i : Instr). IsRead part (text part i) (take (words i) (first ∷ slice_index behind 0 ∷ [])))
        (sym (h.undefined (slice_index behind 0))) (word_is_read part first small_first)

-- an instruction fits, and what its line stands for are the words there
pub record IsShown (part : Chip) (first : ℕ) (behind : List ℕ) : Type 0 where
  pub read : IsRead part (text part (shown part first behind)) (take (words (shown part first behind)) (first ∷ behind))
  pub some : 1 ≤ words (shown part first behind)
  pub few : words (shown part first behind) ≤ 2
  pub fits : words (shown part first behind) ≤ 1 + length behind

few_words : (instr : Instr) → (1 ≤ words instr) × (words instr ≤ 2)
few_words instr = by_words (words instr) (one_or_two instr)
  where
    by_words : (n : ℕ) → (n ≡ 1) ⊎ (n ≡ 2) → (1 ≤ n) × (n ≤ 2)
    by_words n (inl one) = (omega arith, omega arith)
    by_words n (inr two) = (omega arith, omega arith)

shown_is : (part : Chip) (first : ℕ) (behind : List ℕ) →
    shown part first behind ≡ shown_of part (1 + length behind) first (decode first (slice_index behind 0))
unfolding shown
shown_is part first behind = refl

-- an instruction is shown as its word, or it fits and stays in the part
record Stays (part : Chip) (left : ℕ) (first : ℕ) (instr : Instr) : Type 0 where
  as_it_is : shown_of part left first instr ≡ instr
  stays : leads_out part instr ≡ false
  fits : words instr ≤ left

word_or_stays : (part : Chip) (left first : ℕ) (instr : Instr) → (shown_of part left first instr ≡ Undefined first) ⊎ Stays part left first instr
word_or_stays part left first instr = by_test (nat_lt left (words instr)) refl (leads_out part instr) refl
  where
    by_test : (b : Bool) → nat_lt left (words instr) ≡ b → (c : Bool) → leads_out part instr ≡ c →
        (shown_of part left first instr ≡ Undefined first) ⊎ Stays part left first instr
    by_test true h c k = inl (ap (λ (b : Bool). if b || leads_out part instr then Undefined first else instr) h)
    by_test false h true k = inl (ap (λ (b : Bool). if b || leads_out part instr then Undefined first else instr) h ∙
        ap (λ (b : Bool). if b then Undefined first else instr) k)
    by_test false h false k = inr (record {
      as_it_is = ap (λ (b : Bool). if b || leads_out part instr then Undefined first else instr) h ∙
          ap (λ (b : Bool). if b then Undefined first else instr) k;
      stays = k;
      fits = grind (arith, nat_tests);
    })

-- what is shown is known
shown_as : (part : Chip) (first : ℕ) (behind : List ℕ) (showing : Instr) → shown part first behind ≡ showing →
    IsRead part (text part showing) (take (words showing) (first ∷ behind)) → words showing ≤ 1 + length behind → IsShown part first behind
shown_as part first behind showing is read fits = record {
  read = subst (λ (i : Instr). IsRead part (text part i) (take (words i) (first ∷ behind))) (sym is) read;
  some = (few_words (shown part first behind)).0;
  few = (few_words (shown part first behind)).1;
  fits = subst (λ (i : Instr). words i ≤ 1 + length behind) (sym is) fits;
}

pub is_shown : (part : Chip) → words_of part ≤ 65536 → (first : ℕ) (behind : List ℕ) → first < 65536 → slice_index behind 0 < 65536 →
    IsShown part first behind
is_shown part small_part first behind small_first small =
    by_kind (word_or_stays part (1 + length behind) first (decode first (slice_index behind 0)))
  where
    by_kind : (shown_of part (1 + length behind) first (decode first (slice_index behind 0)) ≡ Undefined first) ⊎
        Stays part (1 + length behind) first (decode first (slice_index behind 0)) → IsShown part first behind
    by_kind (inl word) =
        shown_as part first behind (Undefined first) (shown_is part first behind ∙ word) (word_is_read part first small_first) (omega arith)
    by_kind (inr stays) =
        shown_as part first behind (decode first (slice_index behind 0)) (shown_is part first behind ∙ stays.as_it_is)
        (decoded_is_read part small_part first behind small_first small stays.stays stays.fits) stays.fits
