use Rattle.part_spec.specs.Chip.{chip_of}
use Rattle.avr_asm.specs.Meanings.{operand_told}
use Rattle.avr_asm.proofs.Meants.{few_one, meant_one}
use Rattle.avr_asm.proofs.orders.one_meant.Goals as goal

pub returns-in-Some : goal.returns-in-Some
returns-in-Some c = λ operands few.
    meant_one (chip_of c.args.part) c.args.letters.now (operand_told c.args.operand) c.in-One.bytes.now operands _ c.in-Some.ensures
    (few_one c.args.few c.in-One.bytes operands c.in-One.is few)
