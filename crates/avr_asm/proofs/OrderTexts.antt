-- What a statement says, by its mnemonic.
use Rattle.std.proofs.Common.{◌≡◌, ℕ, Bool, true, false, List, [], ◌∷◌, refl, sym, ap, ◌∙◌}
use Rattle.std.specs.Prelude.{◌==◌, count_by, Option, None, Some, Result, Ok}
use Rattle.std.specs.List.{zip}
use Rattle.std.specs.Str.{bytes_eq}
use Rattle.part_spec.specs.Chip.{Chip}
use Rattle.avr_spec.specs.Table.{Row, table}
use Rattle.asm_spec.specs.declared.kind.AsmKind.{AsmKind}
use Rattle.asm_spec.specs.Forms.{Form, forms}
use Rattle.asm_spec.specs.Tokens.{Statement}
use Rattle.asm_spec.specs.Reading.{Meant, Order, origin, by_form, by_meanings, fitting, is_outside, meanings, order_of, plain_word, with_number, written_out}
use Rattle.avr_asm.specs.Orders.{capped_answer}

-- `.word` and `.org`
abbrev pub word_text : List ℕ
word_text = 46 ∷ 119 ∷ 111 ∷ 114 ∷ 100 ∷ []

abbrev pub org_text : List ℕ
org_text = 46 ∷ 111 ∷ 114 ∷ 103 ∷ []

pub test_is : (shown text name : List ℕ) (found b : Bool) → found ≡ bytes_eq shown name → shown ≡ text → found ≡ b → bytes_eq text name ≡ b
test_is shown text name found b is same h = ap (λ (l : List ℕ). bytes_eq l name) (sym same) ∙ sym is ∙ h

module _ (part : Chip) (statement : Statement) where
  pub says_word : bytes_eq word_text statement.name ≡ true → order_of part statement ≡ with_number plain_word statement.operands
  says_word h = rw h refl

  pub says_origin : bytes_eq word_text statement.name ≡ false → bytes_eq org_text statement.name ≡ true →
      order_of part statement ≡ with_number (λ place. Ok (origin place)) statement.operands
  says_origin h g = rw h (rw g refl)

  pub says_form : bytes_eq word_text statement.name ≡ false → bytes_eq org_text statement.name ≡ false →
      order_of part statement ≡ by_form part (written_out statement) (zip table forms)
  says_form h g = rw h (rw g refl)

-- an instruction has no place to tell
fitting_capped : (letters : List ℕ) (operands : List Meant) → capped_answer (fitting letters operands) ≡ fitting letters operands
fitting_capped letters operands = by_test (count_by is_outside operands == 0) refl
  where
    by_test : (b : Bool) → (count_by is_outside operands == 0) ≡ b → capped_answer (fitting letters operands) ≡ fitting letters operands
    by_test true h = rw h refl
    by_test false h = rw h refl

meanings_capped : (letters : List ℕ) (found : Option (List Meant)) (otherwise : Result Order AsmKind) → capped_answer otherwise ≡ otherwise →
    capped_answer (by_meanings letters found otherwise) ≡ by_meanings letters found otherwise
meanings_capped letters None otherwise rest = rest
meanings_capped letters (Some operands) otherwise rest = fitting_capped letters operands

form_step : (part : Chip) (statement : Statement) (row : Row) (form : Form) (more : List (Row × Form)) (b : Bool) →
    bytes_eq form.name statement.name ≡ b → capped_answer (by_form part statement more) ≡ by_form part statement more →
    capped_answer (by_form part statement ((row, form) ∷ more)) ≡ by_form part statement ((row, form) ∷ more)
form_step part statement row form more true h rest =
    rw h (meanings_capped row.letters (meanings part row.letters form.operands statement.operands) (by_form part statement more) rest)
form_step part statement row form more false h rest = rw h rest

form_capped : (part : Chip) (statement : Statement) (rows : List (Row × Form)) →
    capped_answer (by_form part statement rows) ≡ by_form part statement rows
form_capped part statement [] = refl
form_capped part statement ((row, form) ∷ more) =
    form_step part statement row form more (bytes_eq form.name statement.name) refl (form_capped part statement more)

pub all_capped : (part : Chip) (statement : Statement) →
    capped_answer (by_form part statement (zip table forms)) ≡ by_form part statement (zip table forms)
all_capped part statement = form_capped part statement (zip table forms)
