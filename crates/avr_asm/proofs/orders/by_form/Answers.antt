use Rattle.std.proofs.Common.{◌≡◌, ℕ, ◌+◌, map, drop, refl, sym, ap, ◌∙◌, arith}
use Rattle.std.specs.Prelude.{Option, Result}
use Rattle.part_spec.specs.Chip.{chip_of}
use Rattle.asm_spec.specs.Tokens.{Statement}
use Rattle.asm_spec.specs.declared.kind.AsmKind.{AsmKind}
use Rattle.avr_asm.specs.declared.forms.TheConstants.{FORMS}
use Rattle.avr_asm.specs.declared.orders.Order.{Order}
use Rattle.avr_asm.specs.Orders.{said_or}
use Rattle.avr_asm.proofs.Rows.{by_letters, by_none, by_step, by_table, shown}
use Rattle.avr_asm.proofs.orders.by_form.Goals as goal

pub forms-init : goal.forms-init
forms-init c = record { so_far = λ operands few. refl }

pub forms-preserved : goal.forms-preserved
forms-preserved c = record {
  so_far = λ operands few.
      let statement : Statement = record { name = c.args.statement.now.name.now; operands = operands } in
      sym (by_step (chip_of c.args.part) statement FORMS c.forms.form-index _ c.by_one.result (omega arith)
      (λ otherwise. c.by_one.ensures operands few otherwise)
      ∙ ap (λ (said : Option (Result Order AsmKind)). said_or said (by_letters (chip_of c.args.part) statement (map shown (drop (c.forms.form-index + 1) FORMS)))) c.in-None.is)
      ∙ c.forms.invariant.so_far operands few;
}

pub returns-in-Some : goal.returns-in-Some
returns-in-Some c = λ operands few.
    let statement : Statement = record { name = c.args.statement.now.name.now; operands = operands } in
    sym (by_step (chip_of c.args.part) statement FORMS c.forms.form-index _ c.by_one.result (omega arith)
    (λ otherwise. c.by_one.ensures operands few otherwise)
    ∙ ap (λ (said : Option (Result Order AsmKind)). said_or said (by_letters (chip_of c.args.part) statement (map shown (drop (c.forms.form-index + 1) FORMS)))) c.in-Some.is)
    ∙ c.forms.invariant.so_far operands few ∙ by_table (chip_of c.args.part) statement

pub returns : goal.returns
returns c = λ operands few.
    let statement : Statement = record { name = c.args.statement.now.name.now; operands = operands } in
    let end : c.forms.form-index ≡ 86 = omega arith in
    sym (by_none (chip_of c.args.part) statement)
    ∙ ap (λ (k : ℕ). by_letters (chip_of c.args.part) statement (map shown (drop k FORMS))) (sym end)
    ∙ c.forms.invariant.so_far operands few ∙ by_table (chip_of c.args.part) statement
