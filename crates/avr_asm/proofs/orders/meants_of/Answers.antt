use Rattle.std.proofs.Common.{sym, ap, ◌∙◌}
use Rattle.part_spec.specs.Chip.{chip_of}
use Rattle.asm_spec.specs.Reading.{meanings}
use Rattle.avr_asm.specs.declared.forms.Operands.{Operands}
use Rattle.avr_asm.specs.Meanings.{operands_told}
use Rattle.avr_asm.proofs.orders.meants_of.Goals as goal

pub returns-in-None : goal.returns-in-None
returns-in-None c = λ operands few.
    c.no_meant.ensures (chip_of c.args.part) c.args.form.now.letters operands few
    ∙ sym (ap (λ (o : Operands). meanings (chip_of c.args.part) c.args.form.now.letters (operands_told o) operands) c.in-None.is)
