-- The code's table of forms, and an instruction by its rows.
use Rattle.std.proofs.Common.{◌≡◌, ℕ, suc, ◌+◌, ◌<◌, List, [], ◌∷◌, length, get_or, map, drop, refl, sym, ap, ◌∙◌, arith}
use Rattle.std.specs.Prelude.{if◌then◌else◌, Option, Result, Err}
use Rattle.std.specs.List.{zip}
use Rattle.std.specs.Str.{bytes_eq}
use Rattle.std.proofs.Math.Seq.{drop-cons}
use Rattle.part_spec.specs.Chip.{Chip}
use Rattle.avr_spec.specs.Table.{Row, table}
use Rattle.asm_spec.specs.declared.kind.AsmKind.{AsmKind}
use Rattle.asm_spec.specs.declared.kind.AsmKind.TheVariants.{Text}
use Rattle.asm_spec.specs.Forms.{Form, forms}
use Rattle.asm_spec.specs.Tokens.{Statement}
use Rattle.asm_spec.specs.Reading.{Order, by_form, by_meanings, meanings}
use Rattle.avr_asm.specs.declared.forms.Form.{Form as Held}
use Rattle.avr_asm.specs.declared.forms.TheConstants.{FORMS}
use Rattle.avr_asm.specs.declared.orders.Order.{Order as HeldOrder}
use Rattle.avr_asm.specs.Meanings.{ahead_of_blanks, operands_told}
use Rattle.avr_asm.specs.Orders.{said_or}

-- the letters of a row with its form
pub record Lettered : Type 0 where
  pub letters : List ℕ
  pub form : Form

abbrev pub shown : Held → Lettered
shown form = record { letters = form.letters; form = record { name = ahead_of_blanks form.name; operands = operands_told form.operands } }

lettered : Row × Form → Lettered
lettered (row, form) = record { letters = row.letters; form = form }

-- the code's table has the letters and the forms of the definitions
same_table : map shown FORMS ≡ map lettered (zip table forms)
unfolding lettered
same_table = refl

module _ (part : Chip) (statement : Statement) where
  -- an instruction by the letters of rows with their forms
  pub by_letters : List Lettered → Result Order AsmKind
  by_letters [] = Err Text
  by_letters (first ∷ more) =
      if bytes_eq first.form.name statement.name
      then by_meanings first.letters (meanings part first.letters first.form.operands statement.operands) (by_letters more)
      else by_letters more

  rows_lettered : (rows : List (Row × Form)) → by_form part statement rows ≡ by_letters (map lettered rows)
  unfolding by_letters lettered
  rows_lettered [] = refl
  rows_lettered ((row, form) ∷ more) =
      ap (λ (rest : Result Order AsmKind). if bytes_eq form.name statement.name
      then by_meanings row.letters (meanings part row.letters form.operands statement.operands) rest
      else rest) (rows_lettered more)

  pub by_table : by_letters (map shown FORMS) ≡ by_form part statement (zip table forms)
  by_table = ap by_letters same_table ∙ sym (rows_lettered (zip table forms))

  pub by_none : by_letters [] ≡ Err Text
  unfolding by_letters
  by_none = refl

  -- at the form of a place: what it says, or the forms behind it
  pub by_step : (list : List Held) (i : ℕ) (form : Held) (said : Option (Result HeldOrder AsmKind)) → i < length list →
      ((otherwise : Result Order AsmKind) → said_or said otherwise
      ≡ (if bytes_eq (ahead_of_blanks (get_or list i form).name) statement.name
      then by_meanings (get_or list i form).letters
      (meanings part (get_or list i form).letters (operands_told (get_or list i form).operands) statement.operands) otherwise
      else otherwise)) →
      by_letters (map shown (drop i list)) ≡ said_or said (by_letters (map shown (drop (i + 1) list)))
  unfolding by_letters
  by_step list i form said inside says =
      ap (λ (rest : List Held). by_letters (map shown rest)) (drop-cons list i form inside)
      ∙ ap (λ (k : ℕ). by_letters (shown (get_or list i form) ∷ map shown (drop k list))) (let e : suc i ≡ i + 1 = omega arith in e)
      ∙ sym (says (by_letters (map shown (drop (i + 1) list))))
