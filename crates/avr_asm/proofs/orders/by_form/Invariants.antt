use Rattle.std.proofs.Common.{◌≡◌, ℕ, List, map, drop}
use Rattle.part_spec.specs.Chip.{chip_of}
use Rattle.avr_asm.specs.Statements.{AreFew}
use Rattle.avr_asm.specs.declared.forms.TheConstants.{FORMS}
use Rattle.avr_asm.proofs.Rows.{by_letters, shown}
use Rattle.avr_asm.proofs.orders.by_form.Given as goal

abbrev pub invariant-forms : goal.invariant-forms
invariant-forms l = record {
  so_far : (operands : List (List ℕ)) → AreFew l.fn.statement.operands operands →
      by_letters (chip_of l.fn.part) (record { name = l.fn.statement.name.now; operands = operands }) (map shown (drop l.form-index FORMS))
      ≡ by_letters (chip_of l.fn.part) (record { name = l.fn.statement.name.now; operands = operands }) (map shown FORMS);
}
