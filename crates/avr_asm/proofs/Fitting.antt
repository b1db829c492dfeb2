-- What a line says has words that fit.
use Rattle.std.proofs.Common.{◌≡◌, ℕ, Bool, true, false, nat_lt, List, [], ◌∷◌, refl, subst, arith}
use Rattle.std.proofs.lemmas.Bool.Decides.{nat_tests}
use Rattle.std.specs.Prelude.{◌==◌, ⊤, count_by, Option, None, Some, option_map, Result, Ok, Err}
use Rattle.std.specs.List.{list_all, zip}
use Rattle.std.specs.Str.{bytes_eq}
use Rattle.part_spec.specs.Chip.{Chip}
use Rattle.avr_spec.specs.Table.{Row, table}
use Rattle.asm_spec.specs.declared.kind.AsmKind.{AsmKind}
use Rattle.asm_spec.specs.Forms.{Operand, register, byte, bit, exact, displacement, distance, address, target, Form, forms}
use Rattle.asm_spec.specs.Tokens.{Statement, behind_blanks, is_name, number, statement_of, trimmed}
use Rattle.asm_spec.specs.Reading.{Meaning, value, outside, label, Meant, Line, Order, origin}
use Rattle.asm_spec.specs.Reading.{and_more, at_colon, by_colon, by_form, by_meanings, fitting, is_outside, labelled, limited, meaning, meanings}
use Rattle.asm_spec.specs.Reading.{number_or_name, of_number, order_in, order_of, plain_word, reading, with_number, without_comment, written_out}
use Rattle.avr_asm.specs.Encodings.{FitMeanings, FitsMeaning, FitsOrder, is_row}

-- what fits, of an answer
abbrev FitsFound : Operand → Option Meaning → Type 0
FitsFound operand None = ⊤
FitsFound operand (Some meaning) = FitsMeaning operand meaning

abbrev FitFound : Option (List Meant) → Type 0
FitFound None = ⊤
FitFound (Some operands) = FitMeanings operands

abbrev pub FitsAnswer : Result Order AsmKind → Type 0
FitsAnswer (Ok order) = FitsOrder order
FitsAnswer (Err kind) = ⊤

abbrev pub FitsLine : Result Line AsmKind → Type 0
FitsLine (Ok line) = FitsOrder line.order
FitsLine (Err kind) = ⊤

-- ---- operands
limited_fits : (n : ℕ) → FitsMeaning address (limited 0x10000 n)
limited_fits n = by_test (nat_lt n 0x10000) refl
  where
    by_test : (b : Bool) → nat_lt n 0x10000 ≡ b → FitsMeaning address (limited 0x10000 n)
    by_test true h = rw h (grind (arith, nat_tests))
    by_test false h = rw h tt

address_fits : (bytes : List ℕ) (found : Option ℕ) → FitsFound address (number_or_name (option_map (limited 0x10000) found) bytes)
address_fits bytes (Some n) = limited_fits n
address_fits bytes None = by_test (is_name bytes) refl
  where
    by_test : (b : Bool) → is_name bytes ≡ b → FitsFound address (number_or_name None bytes)
    by_test true h = rw h tt
    by_test false h = rw h tt

-- an operand that is not the second word fits
any_fits : (operand : Operand) (m : Meaning) → ((n : ℕ) → FitsMeaning operand (value n)) → FitsMeaning operand m
any_fits operand (value n) all = all n
any_fits operand outside all = tt
any_fits operand (label name) all = tt

found_fits : (operand : Operand) (found : Option Meaning) → ((n : ℕ) → FitsMeaning operand (value n)) → FitsFound operand found
found_fits operand None all = tt
found_fits operand (Some m) all = any_fits operand m all

meaning_fits : (part : Chip) (letters : List ℕ) (operand : Operand) (bytes : List ℕ) → FitsFound operand (meaning part letters operand bytes)
meaning_fits part letters (register named letter) bytes = found_fits (register named letter) (meaning part letters (register named letter) bytes) (λ n. tt)
meaning_fits part letters (byte letter) bytes = found_fits (byte letter) (meaning part letters (byte letter) bytes) (λ n. tt)
meaning_fits part letters (bit letter) bytes = found_fits (bit letter) (meaning part letters (bit letter) bytes) (λ n. tt)
meaning_fits part letters (exact shown) bytes = found_fits (exact shown) (meaning part letters (exact shown) bytes) (λ n. tt)
meaning_fits part letters (displacement pointer letter) bytes =
    found_fits (displacement pointer letter) (meaning part letters (displacement pointer letter) bytes) (λ n. tt)
meaning_fits part letters (distance values letter) bytes =
    found_fits (distance values letter) (meaning part letters (distance values letter) bytes) (λ n. tt)
meaning_fits part letters address bytes = address_fits bytes (number bytes)
meaning_fits part letters (target letter) bytes = found_fits (target letter) (meaning part letters (target letter) bytes) (λ n. tt)

and_more_fits : (operand : Operand) (m : Option Meaning) (more : Option (List Meant)) → FitsFound operand m → FitFound more →
    FitFound (and_more operand m more)
and_more_fits operand None more first rest = tt
and_more_fits operand (Some m) None first rest = tt
and_more_fits operand (Some m) (Some more) first rest = (first, rest)

meanings_fit : (part : Chip) (letters : List ℕ) (operands : List Operand) (texts : List (List ℕ)) → FitFound (meanings part letters operands texts)
meanings_fit part letters [] [] = tt
meanings_fit part letters [] (text ∷ texts) = tt
meanings_fit part letters (operand ∷ operands) [] = tt
meanings_fit part letters (operand ∷ operands) (text ∷ texts) =
    and_more_fits operand (meaning part letters operand text) (meanings part letters operands texts)
    (meaning_fits part letters operand text) (meanings_fit part letters operands texts)

-- ---- instructions
fitting_fits : (letters : List ℕ) (operands : List Meant) → is_row letters ≡ true → FitMeanings operands → FitsAnswer (fitting letters operands)
fitting_fits letters operands row fit = by_test (count_by is_outside operands == 0) refl
  where
    by_test : (b : Bool) → (count_by is_outside operands == 0) ≡ b → FitsAnswer (fitting letters operands)
    by_test true h = rw h (row, fit)
    by_test false h = rw h tt

by_meanings_fits : (letters : List ℕ) (found : Option (List Meant)) (otherwise : Result Order AsmKind) → is_row letters ≡ true → FitFound found →
    FitsAnswer otherwise → FitsAnswer (by_meanings letters found otherwise)
by_meanings_fits letters None otherwise row fit rest = rest
by_meanings_fits letters (Some operands) otherwise row fit rest = fitting_fits letters operands row fit

has_row : Row × Form → Bool
has_row (row, form) = is_row row.letters

test_fits : (part : Chip) (statement : Statement) (row : Row) (form : Form) (more : List (Row × Form)) (b : Bool) →
    bytes_eq form.name statement.name ≡ b → is_row row.letters ≡ true → FitsAnswer (by_form part statement more) →
    FitsAnswer (by_form part statement ((row, form) ∷ more))
test_fits part statement row form more true h yes_row rest =
    rw h (by_meanings_fits row.letters (meanings part row.letters form.operands statement.operands) (by_form part statement more) yes_row
    (meanings_fit part row.letters form.operands statement.operands) rest)
test_fits part statement row form more false h yes_row rest = rw h rest

row_fits : (part : Chip) (statement : Statement) (row : Row) (form : Form) (more : List (Row × Form)) (c : Bool) → is_row row.letters ≡ c →
    (list_all has_row more ≡ true → FitsAnswer (by_form part statement more)) → list_all has_row ((row, form) ∷ more) ≡ true →
    FitsAnswer (by_form part statement ((row, form) ∷ more))
unfolding has_row
row_fits part statement row form more false is rest all = absurd (let wrong : false ≡ true = rw is at all in cc)
row_fits part statement row form more true is rest all =
    test_fits part statement row form more (bytes_eq form.name statement.name) refl is (rest (rw is at all))

form_fits : (part : Chip) (statement : Statement) (rows : List (Row × Form)) → list_all has_row rows ≡ true → FitsAnswer (by_form part statement rows)
form_fits part statement [] all = tt
form_fits part statement ((row, form) ∷ more) all =
    row_fits part statement row form more (is_row row.letters) refl (λ behind. form_fits part statement more behind) all

rows_all : list_all has_row (zip table forms) ≡ true
unfolding has_row
rows_all = refl

-- ---- statements and lines
number_fits : (says : ℕ → Result Order AsmKind) (operands : List (List ℕ)) → ((n : ℕ) → FitsAnswer (says n)) → FitsAnswer (with_number says operands)
number_fits says [] all = tt
number_fits says (operand ∷ []) all = by_number (number operand)
  where
    by_number : (found : Option ℕ) → FitsAnswer (of_number says found)
    by_number None = tt
    by_number (Some n) = all n
number_fits says (operand ∷ another ∷ more) all = tt

word_fits : (n : ℕ) → FitsAnswer (plain_word n)
word_fits n = by_test (nat_lt n 0x10000) refl
  where
    by_test : (b : Bool) → nat_lt n 0x10000 ≡ b → FitsAnswer (plain_word n)
    by_test true h = rw h tt
    by_test false h = rw h tt

order_fits : (part : Chip) (statement : Statement) → FitsAnswer (order_of part statement)
order_fits part statement = by_word (bytes_eq (46 ∷ 119 ∷ 111 ∷ 114 ∷ 100 ∷ []) statement.name) refl
  where
    by_word : (b : Bool) → bytes_eq (46 ∷ 119 ∷ 111 ∷ 114 ∷ 100 ∷ []) statement.name ≡ b → FitsAnswer (order_of part statement)
    by_word true h = rw h (number_fits plain_word statement.operands word_fits)
    by_word false h = by_org (bytes_eq (46 ∷ 111 ∷ 114 ∷ 103 ∷ []) statement.name) refl
      where
        by_org : (b : Bool) → bytes_eq (46 ∷ 111 ∷ 114 ∷ 103 ∷ []) statement.name ≡ b → FitsAnswer (order_of part statement)
        by_org true g = rw h (rw g (number_fits (λ place. Ok (origin place)) statement.operands (λ n. tt)))
        by_org false g = rw h (rw g (form_fits part (written_out statement) (zip table forms) rows_all))

order_in_fits : (part : Chip) (bytes : List ℕ) → FitsAnswer (order_in part bytes)
order_in_fits part [] = tt
order_in_fits part (first ∷ more) = order_fits part (statement_of (first ∷ more))

labelled_fits : (name : Option (List ℕ)) (answer : Result Order AsmKind) → FitsAnswer answer → FitsLine (labelled name answer)
labelled_fits name (Ok order) fit = fit
labelled_fits name (Err kind) fit = tt

colon_fits : (part : Chip) (line : List ℕ) (found : Option (List ℕ × List ℕ)) → FitsLine (by_colon part line found)
colon_fits part line None = labelled_fits None (order_in part (trimmed line)) (order_in_fits part (trimmed line))
colon_fits part line (Some (front, more)) = by_test (is_name (behind_blanks front)) refl
  where
    by_test : (b : Bool) → is_name (behind_blanks front) ≡ b → FitsLine (by_colon part line (Some (front, more)))
    by_test true h = rw h (labelled_fits (Some (behind_blanks front)) (order_in part (trimmed more)) (order_in_fits part (trimmed more)))
    by_test false h = rw h tt

pub reading_fits : (part : Chip) (line : List ℕ) → FitsLine (reading part line)
unfolding reading
reading_fits part line = colon_fits part (without_comment line) (at_colon (without_comment line))

pub said_fits : (part : Chip) (line : List ℕ) (said : Line) → reading part line ≡ Ok said → FitsOrder said.order
said_fits part line said is = subst FitsLine is (reading_fits part line)
