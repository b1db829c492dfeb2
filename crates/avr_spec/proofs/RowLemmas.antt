-- The rows of the instruction table exclude each other, and each word has one or is undefined.
use Rattle.std.proofs.Common.{◌≡◌, ℕ, zero, suc, ◌==◌, Bool, true, false, List, [], ◌∷◌, ◌⊎◌, inl, inr, Option, Some, None, slice_get, map}
use Rattle.std.proofs.Common.{refl, sym, ap, ◌∙◌, subst, arith, eqb-true}
use Rattle.avr_spec.proofs.Computing.{both}
use Rattle.avr_spec.specs.Table.{Row, table}
use Rattle.avr_spec.specs.Decode.{bits, fits, next_fits, agrees, find_row, instr_of, field_of, decode, words, skips, blank, fixed_zero}
use Rattle.avr_spec.specs.Decode.{fixed_one}
use Rattle.avr_spec.specs.Laws.{has_row, RowsExclude, HasRow, HasNone, EachWordDecodes, FirstWordTells}
use Rattle.avr_spec.specs.Step.{seen}
use Rattle.avr_spec.specs.declared.instruction.Instr.{Instr}

-- two rows have a 0 and a 1 at one bit; rows whose blanks stand apart are not told apart here
abbrev pub clash : ℕ → ℕ → Bool
clash a b =
    elim (a == fixed_zero) [ true ↦ b == fixed_one | false ↦ elim (a == fixed_one) [ true ↦ b == fixed_zero | false ↦ false ] ]

abbrev pub apart : List ℕ → List ℕ → Bool
apart [] other = false
apart (a ∷ letters) [] = false
apart (a ∷ letters) (b ∷ other) =
    elim (a == blank) [
      | true ↦ elim (b == blank) [ true ↦ apart letters other | false ↦ false ]
      | false ↦ elim (b == blank) [ true ↦ false | false ↦ elim (clash a b) [ true ↦ true | false ↦ apart letters other ] ]
    ]

abbrev apart_from_all : List ℕ → List Row → Bool
apart_from_all letters [] = true
apart_from_all letters (row ∷ rows) = elim (apart letters row.letters) [ true ↦ apart_from_all letters rows | false ↦ false ]

abbrev all_apart : List Row → Bool
all_apart [] = true
all_apart (row ∷ rows) = elim (apart_from_all row.letters rows) [ true ↦ all_apart rows | false ↦ false ]

table_apart : all_apart table ≡ true
table_apart = refl

-- a bit cannot be xs two letters say that clash
no_bit : (a0 a1 b0 b1 is0 is1 : Bool) → (b0 ≡ true → b1 ≡ true → ⊥) → (is0 ≡ true → is1 ≡ true → ⊥) →
    (elim a0 [ true ↦ b1 | false ↦ elim a1 [ true ↦ b0 | false ↦ false ] ]) ≡ true →
    (elim a0 [ true ↦ is0 | false ↦ elim a1 [ true ↦ is1 | false ↦ true ] ]) ≡ true →
    (elim b0 [ true ↦ is0 | false ↦ elim b1 [ true ↦ is1 | false ↦ true ] ]) ≡ true → ⊥
no_bit true a1 true b1 is0 is1 letters bits e fa fb = letters refl e
no_bit true a1 false true is0 is1 letters bits e fa fb = bits fa fb
no_bit true a1 false false is0 is1 letters bits e fa fb = cc
no_bit false true true b1 is0 is1 letters bits e fa fb = bits fb fa
no_bit false true false b1 is0 is1 letters bits e fa fb = cc
no_bit false false b0 b1 is0 is1 letters bits e fa fb = cc

not_both : (n a b : ℕ) → ¬ (a ≡ b) → (n == a) ≡ true → (n == b) ≡ true → ⊥
not_both n a b differ ea eb = differ (sym (eqb-true n a ea) ∙ eqb-true n b eb)

no_agreement : (a b bit : ℕ) → clash a b ≡ true → agrees a bit ≡ true → agrees b bit ≡ true → ⊥
no_agreement a b bit e fa fb =
    no_bit (a == fixed_zero) (a == fixed_one) (b == fixed_zero) (b == fixed_one) (bit == 0) (bit == 1)
    (not_both b fixed_zero fixed_one (λ h. absurd (omega arith))) (not_both bit 0 1 (λ h. absurd (omega arith))) e fa fb

-- one letter each: either both are blank, or both take a bit
both_fit : (blank_a blank_b : Bool) (a b : ℕ) (xs ys bits : List ℕ) →
    ((rest : List ℕ) → apart xs ys ≡ true → fits xs rest ≡ true → fits ys rest ≡ true → ⊥) →
    (elim blank_a [
      | true ↦ elim blank_b [ true ↦ apart xs ys | false ↦ false ]
      | false ↦ elim blank_b [ true ↦ false | false ↦ elim (clash a b) [ true ↦ true | false ↦ apart xs ys ] ]
    ]) ≡ true →
    (elim blank_a [ true ↦ fits xs bits | false ↦ next_fits a (fits xs) bits ]) ≡ true →
    (elim blank_b [ true ↦ fits ys bits | false ↦ next_fits b (fits ys) bits ]) ≡ true → ⊥
both_fit true true a b xs ys bits rest e fa fb = rest bits e fa fb
both_fit true false a b xs ys bits rest e fa fb = cc
both_fit false true a b xs ys bits rest e fa fb = cc
both_fit false false a b xs ys [] rest e fa fb = cc
both_fit false false a b xs ys (bit ∷ bits) rest e fa fb =
    let pa = both (agrees a bit) (fits xs bits) fa in
    let pb = both (agrees b bit) (fits ys bits) fb in
    by_clash (clash a b) e (λ c. no_agreement a b bit c pa.0 pb.0) (λ h. rest bits h pa.1 pb.1)
  where
    by_clash : (c : Bool) → (elim c [ true ↦ true | false ↦ apart xs ys ]) ≡ true → (c ≡ true → ⊥) → (apart xs ys ≡ true → ⊥) → ⊥
    by_clash true h clashed later = clashed refl
    by_clash false h clashed later = later h

-- rows that are apart have no word in common
no_common : (xs ys bits : List ℕ) → apart xs ys ≡ true → fits xs bits ≡ true → fits ys bits ≡ true → ⊥
no_common [] ys bits e fa fb = cc
no_common (a ∷ xs) [] bits e fa fb = cc
no_common (a ∷ xs) (b ∷ ys) bits e fa fb =
    both_fit (a == blank) (b == blank) a b xs ys bits (no_common xs ys) e fa fb

no_common_later : (letters bits : List ℕ) (rows : List Row) (j : ℕ) → apart_from_all letters rows ≡ true →
    fits letters bits ≡ true → has_row (slice_get rows j) bits ≡ true → ⊥
no_common_later letters bits [] j e fa fb = cc
no_common_later letters bits (row ∷ rows) zero e fa fb =
    no_common letters row.letters bits (both (apart letters row.letters) (apart_from_all letters rows) e).0 fa fb
no_common_later letters bits (row ∷ rows) (suc j) e fa fb =
    no_common_later letters bits rows j (both (apart letters row.letters) (apart_from_all letters rows) e).1 fa fb

one_index : (rows : List Row) (bits : List ℕ) (i j : ℕ) → all_apart rows ≡ true →
    has_row (slice_get rows i) bits ≡ true → has_row (slice_get rows j) bits ≡ true → i ≡ j
one_index [] bits i j e fi fj = cc
one_index (row ∷ rows) bits zero zero e fi fj = refl
one_index (row ∷ rows) bits zero (suc j) e fi fj =
    absurd (no_common_later row.letters bits rows j (both (apart_from_all row.letters rows) (all_apart rows) e).0 fi fj)
one_index (row ∷ rows) bits (suc i) zero e fi fj =
    absurd (no_common_later row.letters bits rows i (both (apart_from_all row.letters rows) (all_apart rows) e).0 fj fi)
one_index (row ∷ rows) bits (suc i) (suc j) e fi fj =
    ap suc (one_index rows bits i j (both (apart_from_all row.letters rows) (all_apart rows) e).1 fi fj)

pub rows_exclude : RowsExclude
rows_exclude word i j fi fj = one_index table (bits word) i j table_apart fi fj

-- what the search for a row finds: a row of the list that fits, or none where none fits
record Found (rows : List Row) (bits : List ℕ) : Type 0 where
  row : Row
  index : ℕ
  there : slice_get rows index ≡ Some row
  fixed : fits row.letters bits ≡ true
  result : find_row rows bits ≡ Some row

record Missing (rows : List Row) (bits : List ℕ) : Type 0 where
  none : (i : ℕ) → has_row (slice_get rows i) bits ≡ false
  result : find_row rows bits ≡ None

search_for : (rows : List Row) (bits : List ℕ) → Found rows bits ⊎ Missing rows bits
search_for [] bits = inr (record { none = λ i. refl; result = refl })
search_for (row ∷ rows) bits = here (fits row.letters bits) refl (search_for rows bits)
  where
    later : Found rows bits → fits row.letters bits ≡ false → Found (row ∷ rows) bits
    later f e = record {
      row = f.row;
      index = suc f.index;
      there = f.there;
      fixed = f.fixed;
      result = ap (λ b. elim b [ true ↦ Some row | false ↦ find_row rows bits ]) e ∙ f.result;
    }

    nowhere : Missing rows bits → fits row.letters bits ≡ false → (i : ℕ) → has_row (slice_get (row ∷ rows) i) bits ≡ false
    nowhere m e zero = e
    nowhere m e (suc i) = m.none i

    here : (b : Bool) → fits row.letters bits ≡ b → Found rows bits ⊎ Missing rows bits → Found (row ∷ rows) bits ⊎
        Missing (row ∷ rows) bits
    here true e rest = inl (record {
      row = row;
      index = 0;
      there = refl;
      fixed = e;
      result = ap (λ b. elim b [ true ↦ Some row | false ↦ find_row rows bits ]) e;
    })
    here false e (inl f) = inl (later f e)
    here false e (inr m) = inr (record {
      none = nowhere m e;
      result = ap (λ b. elim b [ true ↦ Some row | false ↦ find_row rows bits ]) e ∙ m.result;
    })

pub decode-is : (first second : ℕ) → decode first second ≡ instr_of (find_row table (bits first)) first second
unfolding decode
decode-is first second = refl

pub each_word_decodes : EachWordDecodes
each_word_decodes first = told (search_for table (bits first))
  where
    told : Found table (bits first) ⊎ Missing table (bits first) → HasRow first ⊎ HasNone first
    told (inl f) = inl (record {
      row = f.row;
      index = f.index;
      there = f.there;
      fixed = f.fixed;
      says = λ second. decode-is first second ∙ ap (λ (o : Option Row). instr_of o first second) f.result;
    })
    told (inr m) = inr (record {
      none = m.none;
      undefined = λ second. decode-is first second ∙ ap (λ (o : Option Row). instr_of o first second) m.result;
    })

-- the rows that a word with these leading letters may have; computed once, they make a search over a block of words short
abbrev pub narrowed : List ℕ → List Row → List Row
narrowed leading [] = []
narrowed leading (row ∷ rows) = elim (apart row.letters leading) [ true ↦ narrowed leading rows | false ↦ row ∷ narrowed leading rows ]

pub find_row-narrowed : (leading bits : List ℕ) → fits leading bits ≡ true → (rows : List Row) →
    find_row rows bits ≡ find_row (narrowed leading rows) bits
find_row-narrowed leading bits led [] = refl
find_row-narrowed leading bits led (row ∷ rows) =
    by_apart (apart row.letters leading) refl (fits row.letters bits) refl (find_row-narrowed leading bits led rows)
  where
    by_apart : (b : Bool) → apart row.letters leading ≡ b → (f : Bool) → fits row.letters bits ≡ f →
        find_row rows bits ≡ find_row (narrowed leading rows) bits →
        (elim f [ true ↦ Some row | false ↦ find_row rows bits ]) ≡
        find_row (elim b [ true ↦ narrowed leading rows | false ↦ row ∷ narrowed leading rows ]) bits
    by_apart true e true fit rest = absurd (no_common row.letters leading bits e fit led)
    by_apart true e false fit rest = rest
    by_apart false e f fit rest =
        ap (λ o. elim f [ true ↦ Some row | false ↦ o ]) rest ∙
        ap (λ b. elim b [ true ↦ Some row | false ↦ find_row (narrowed leading rows) bits ]) (sym fit)

-- what two functions of a row have in common over the whole list they have at each of its rows
pub map_at : {A : Type 0} (f g : Row → A) (rows : List Row) (i : ℕ) (row : Row) →
    map f rows ≡ map g rows → slice_get rows i ≡ Some row → f row ≡ g row
map_at f g [] i row e there = cc
map_at f g (first ∷ rows) zero row e there =
    let same : first ≡ row = cc in let head : f first ≡ g first = cc in subst (λ r. f r ≡ g r) same head
map_at f g (first ∷ rows) (suc i) row e there = let rest : map f rows ≡ map g rows = cc in map_at f g rows i row rest there

-- what a row's instruction is to a function does not depend on the second word, so the first word tells it
module _ {A : Type 0} (kind : Instr → A)
    (rows_tell : (fields : ℕ → ℕ) (second : ℕ) →
    map (λ row. kind (row.instr fields second)) table ≡ map (λ row. kind (row.instr fields 0)) table) where
  pub told_by_first : (first second : ℕ) → kind (decode first second) ≡ kind (decode first 0)
  told_by_first first second = by_row (each_word_decodes first)
    where
      by_row : HasRow first ⊎ HasNone first → kind (decode first second) ≡ kind (decode first 0)
      by_row (inl h) =
          ap kind (h.says second) ∙
          map_at (λ row. kind (row.instr (field_of h.row.letters first) second)) (λ row. kind (row.instr (field_of h.row.letters first) 0))
          table h.index h.row (rows_tell (field_of h.row.letters first) second) h.there ∙
          sym (ap kind (h.says 0))
      by_row (inr h) = ap kind (h.undefined second) ∙ sym (ap kind (h.undefined 0))

words_told : (fields : ℕ → ℕ) (second : ℕ) →
    map (λ row. words (row.instr fields second)) table ≡ map (λ row. words (row.instr fields 0)) table
words_told fields second = refl

skips_told : (fields : ℕ → ℕ) (second : ℕ) →
    map (λ row. skips (row.instr fields second)) table ≡ map (λ row. skips (row.instr fields 0)) table
skips_told fields second = refl

seen_told : (fields : ℕ → ℕ) (second : ℕ) → map (λ row. seen (row.instr fields second)) table ≡ map (λ row. seen (row.instr fields 0)) table
seen_told fields second = refl

pub first_word_tells : FirstWordTells
first_word_tells first second =
    (told_by_first words words_told first second, told_by_first skips skips_told first second, told_by_first seen seen_told first second)
