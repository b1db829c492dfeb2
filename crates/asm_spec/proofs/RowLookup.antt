-- What is printed of a row's instruction is found by that row: no earlier form with its mnemonic has a meaning for its operands.
use Rattle.std.proofs.Common.{◌≡◌, ℕ, zero, suc, ◌<◌, ◌==◌, ◌&&◌, ◌||◌, Bool, true, false, List, [], ◌∷◌, map, slice_get, refl, sym, ap, ◌∙◌, subst, zero-add}
use Rattle.std.specs.Prelude.{codes, cond, count_by, find, not, eqb, if◌then◌else◌, Option, None, Some, Ok, Err}
use Rattle.std.specs.List.{list_all}
use Rattle.std.specs.Str.{bytes_eq}
use Rattle.std.proofs.lemmas.List.Sums.{sum_by-cons}
use Rattle.part_spec.specs.Chip.{Chip}
use Rattle.avr_spec.specs.Table.{Row}
use Rattle.avr_spec.proofs.Computing.{all_below, at_below}
use Rattle.asm_spec.specs.declared.kind.AsmKind.TheVariants.{Value}
use Rattle.asm_spec.specs.Forms.{Operand, exact, displacement, Form, printed}
use Rattle.asm_spec.specs.Tokens.{Statement}
use Rattle.asm_spec.specs.Reading.{Alias, Meaning, value, Meant, put, coded, aliases, and_more, by_alias, by_form, by_meanings, fitting, is_outside}
use Rattle.asm_spec.specs.Reading.{meaning, meanings, order_of, with_number, plain_word, origin, written_out}
use Rattle.asm_spec.proofs.Tests.{and_parts, not_true}
use Rattle.asm_spec.proofs.FieldWords.{meant_by}
use Rattle.asm_spec.proofs.RowForms.{rows, true_at}

-- ---- other operands
-- an operand of the first kind has no meaning for what is printed of the second
abbrev pub differs : Operand → Operand → Bool
differs (exact shown) (exact other) = not (bytes_eq shown other)
differs (displacement (pointer ∷ []) letter) (displacement (other ∷ []) another) = not (eqb pointer other)
differs _ _ = false

abbrev pub some_differs : List Operand → List Operand → Bool
some_differs [] [] = false
some_differs [] (operand ∷ operands) = true
some_differs (operand ∷ operands) [] = true
some_differs (first ∷ more) (other ∷ others) = differs first other || some_differs more others

no_more : (operand : Operand) (meaning : Option Meaning) → and_more operand meaning None ≡ None
no_more operand None = refl
no_more operand (Some meaning) = refl

module _ (part : Chip) (letters : List ℕ) (fields : ℕ → ℕ) (second : ℕ) where
  other_operand : (first other : Operand) → differs first other ≡ true → meaning part letters first (printed part fields second other) ≡ None
  other_operand (exact shown) (exact other) h =
      ap (λ (b : Bool). if b then Some (value 0) else None) (not_true (bytes_eq shown other) h)
  other_operand (displacement (pointer ∷ []) letter) (displacement (other ∷ []) another) h =
      rw (not_true (eqb pointer other) h) refl
  other_operand first other h = cc

  other_operands : (operands others : List Operand) → some_differs operands others ≡ true →
      meanings part letters operands (map (printed part fields second) others) ≡ None
  other_operands [] [] h = cc
  other_operands [] (other ∷ others) h = refl
  other_operands (operand ∷ operands) [] h = refl
  other_operands (operand ∷ operands) (other ∷ others) h =
      by_first (differs operand other) refl (λ more. other_operands operands others more)
    where
      texts : List (List ℕ)
      texts = map (printed part fields second) others

      by_first : (b : Bool) → differs operand other ≡ b → (some_differs operands others ≡ true → meanings part letters operands texts ≡ None) →
          and_more operand (meaning part letters operand (printed part fields second other)) (meanings part letters operands texts) ≡ None
      by_first true d later =
          ap (λ (m : Option Meaning). and_more operand m (meanings part letters operands texts)) (other_operand operand other d)
      by_first false d later =
          ap (λ (m : Option (List Meant)). and_more operand (meaning part letters operand (printed part fields second other)) m)
          (later (sym (ap (λ (b : Bool). b || some_differs operands others) d) ∙ h)) ∙
          no_more operand (meaning part letters operand (printed part fields second other))

-- ---- forms in front
-- the form is not that of the other's text
abbrev pub passes : Form → Form → Bool
passes form other = not (bytes_eq form.name other.name) || some_differs form.operands other.operands

-- no form in front of a place is that of this text
abbrev pub is_first : (index : ℕ) → Form → List (Row × Form) → Bool
is_first zero own list = true
is_first (suc index) own [] = true
is_first (suc index) own (entry ∷ list) = passes entry.1 own && is_first index own list

is_first_at : List (Row × Form) → (index : ℕ) → Option (Row × Form) → Bool
is_first_at list index None = true
is_first_at list index (Some entry) = is_first index entry.1 list && bytes_eq entry.1.name entry.1.name

all_first : all_below 86 (λ index. is_first_at rows index (slice_get rows index)) ≡ true
unfolding is_first_at
all_first = refl

-- ---- names
abbrev pub is_none : Option Alias → Bool
is_none None = true
is_none (Some alias) = false

-- no directive and no alias has this name
abbrev pub is_plain : List ℕ → Bool
is_plain name =
    not (bytes_eq (codes ".word") name) && (not (bytes_eq (codes ".org") name) && is_none (find (λ alias. bytes_eq alias.name name) aliases))

names_plain : list_all (λ (entry : Row × Form). is_plain entry.1.name) rows ≡ true
names_plain = refl

none_found : (found : Option Alias) → is_none found ≡ true → found ≡ None
none_found None h = refl
none_found (Some alias) h = cc

-- numbers that fit
none_outside : (fields : ℕ → ℕ) (second : ℕ) (operands : List Operand) → count_by is_outside (map (meant_by fields second) operands) ≡ 0
none_outside fields second [] = refl
none_outside fields second (operand ∷ operands) =
    sum_by-cons (λ meant. cond (is_outside meant) 1 0) (meant_by fields second operand) (map (meant_by fields second) operands) ∙
    zero-add (count_by is_outside (map (meant_by fields second) operands)) ∙ none_outside fields second operands

module _ (part : Chip) (fields : ℕ → ℕ) (second : ℕ) where
  -- the text of a form as a statement
  abbrev pub statement_in : Form → Statement
  statement_in form = record { name = form.name; operands = map (printed part fields second) form.operands }

  -- what the form of a place says
  abbrev SaysAt : Row × Form → List (Row × Form) → Type 0
  SaysAt own list = by_form part (statement_in own.1) list ≡ fitting own.0.letters (map (meant_by fields second) own.1.operands)

  -- a form that is passed
  passed : (own : Form) (row : Row) (form : Form) (list : List (Row × Form)) → passes form own ≡ true →
      by_form part (statement_in own) ((row, form) ∷ list) ≡ by_form part (statement_in own) list
  passed own row form list h = by_name (bytes_eq form.name own.name) refl
    where
      texts : List (List ℕ)
      texts = map (printed part fields second) own.operands

      by_name : (b : Bool) → bytes_eq form.name own.name ≡ b →
          by_form part (statement_in own) ((row, form) ∷ list) ≡ by_form part (statement_in own) list
      by_name true n =
          ap (λ (b : Bool). if b then by_meanings row.letters (meanings part row.letters form.operands texts) (by_form part (statement_in own) list)
          else by_form part (statement_in own) list) n ∙
          ap (λ (m : Option (List Meant)). by_meanings row.letters m (by_form part (statement_in own) list))
          (other_operands part row.letters fields second form.operands own.operands
          (sym (ap (λ (b : Bool). not b || some_differs form.operands own.operands) n) ∙ h))
      by_name false n =
          ap (λ (b : Bool). if b then by_meanings row.letters (meanings part row.letters form.operands texts) (by_form part (statement_in own) list)
          else by_form part (statement_in own) list) n

  -- the form itself
  own_says : (row : Row) (form : Form) (list : List (Row × Form)) → bytes_eq form.name form.name ≡ true →
      meanings part row.letters form.operands (map (printed part fields second) form.operands) ≡ Some (map (meant_by fields second) form.operands) →
      SaysAt (row, form) ((row, form) ∷ list)
  own_says row form list same means =
      ap (λ (b : Bool). if b then
      by_meanings row.letters (meanings part row.letters form.operands (map (printed part fields second) form.operands))
      (by_form part (statement_in form) list)
      else by_form part (statement_in form) list) same ∙
      ap (λ (m : Option (List Meant)). by_meanings row.letters m (by_form part (statement_in form) list)) means

  says_at : (own : Row × Form) → bytes_eq own.1.name own.1.name ≡ true →
      meanings part own.0.letters own.1.operands (map (printed part fields second) own.1.operands) ≡ Some (map (meant_by fields second) own.1.operands) →
      (list : List (Row × Form)) (index : ℕ) → slice_get list index ≡ Some own → is_first index own.1 list ≡ true → SaysAt own list
  says_at own same means [] index there first = absurd (cc)
  says_at own same means ((row, form) ∷ list) zero there first =
      let is : (row, form) ≡ own = cc in
      subst (λ (entry : Row × Form). SaysAt own (entry ∷ list)) (sym is) (own_says own.0 own.1 list same means)
  says_at own same means ((row, form) ∷ list) (suc index) there first =
      let parts = and_parts (passes form own.1) (is_first index own.1 list) first in
      passed own.1 row form list parts.0 ∙ says_at own same means list index there parts.1

  -- a statement of no directive and of no alias
  plain_order : (form : Form) → is_plain form.name ≡ true → order_of part (statement_in form) ≡ by_form part (statement_in form) rows
  plain_order form plain =
      let texts : List (List ℕ) = map (printed part fields second) form.operands in
      let word : Bool = bytes_eq (codes ".word") form.name in
      let org : Bool = bytes_eq (codes ".org") form.name in
      let found : Option Alias = find (λ alias. bytes_eq alias.name form.name) aliases in
      let parts = and_parts (not word) (not org && is_none found) plain in
      let others = and_parts (not org) (is_none found) parts.1 in
      ap (λ (b : Bool). if b then with_number plain_word texts
      else if org then with_number (λ place. Ok (origin place)) texts else by_form part (written_out (statement_in form)) rows)
      (not_true word parts.0) ∙
      ap (λ (b : Bool). if b then with_number (λ place. Ok (origin place)) texts else by_form part (written_out (statement_in form)) rows)
      (not_true org others.0) ∙
      ap (λ (a : Option Alias). by_form part (by_alias (statement_in form) a) rows) (none_found found others.1)

  -- what the text of a row says, as a statement
  pub row_says : (index : ℕ) (own : Row × Form) → slice_get rows index ≡ Some own → index < 86 →
      meanings part own.0.letters own.1.operands (map (printed part fields second) own.1.operands) ≡ Some (map (meant_by fields second) own.1.operands) →
      order_of part (statement_in own.1) ≡ Ok (put (coded own.0.letters (map (meant_by fields second) own.1.operands)))
  unfolding is_first_at
  row_says index own there within means =
      let checked : is_first_at rows index (Some own) ≡ true =
      sym (ap (is_first_at rows index) there) ∙ at_below 86 (λ i. is_first_at rows i (slice_get rows i)) all_first index within in
      let parts = and_parts (is_first index own.1 rows) (bytes_eq own.1.name own.1.name) checked in
      plain_order own.1 (true_at (λ (entry : Row × Form). is_plain entry.1.name) rows names_plain index own there) ∙
      says_at own parts.1 means rows index there parts.0 ∙
      ap (λ (n : ℕ). if n == 0 then Ok (put (coded own.0.letters (map (meant_by fields second) own.1.operands))) else Err Value)
      (none_outside fields second own.1.operands)
