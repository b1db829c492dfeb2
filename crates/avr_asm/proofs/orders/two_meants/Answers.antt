use Rattle.part_spec.specs.Chip.{chip_of}
use Rattle.avr_asm.specs.Meanings.{operand_told}
use Rattle.avr_asm.proofs.Meants.{few_more, few_two, meant_two, second_none, too_many}
use Rattle.avr_asm.proofs.orders.two_meants.Goals as goal

pub returns-in-Some-meant_of : goal.returns-in-Some-meant_of
returns-in-Some-meant_of c = λ operands few.
    meant_two (chip_of c.args.part) c.args.letters.now (operand_told c.args.left) (operand_told c.args.right) c.in-Two.first.now c.in-Two.second.now
    operands _ _ c.in-Some.ensures c.in-Some-meant_of.ensures (few_two c.args.few c.in-Two.first c.in-Two.second operands c.in-Two.is few)

pub returns-in-None-meant_of-2 : goal.returns-in-None-meant_of-2
returns-in-None-meant_of-2 c = λ operands few.
    second_none (chip_of c.args.part) c.args.letters.now (operand_told c.args.left) (operand_told c.args.right) c.in-Two.first.now c.in-Two.second.now
    operands c.in-None-meant_of-2.ensures (few_two c.args.few c.in-Two.first c.in-Two.second operands c.in-Two.is few)

pub returns-in-More : goal.returns-in-More
returns-in-More c = λ operands few.
    too_many (chip_of c.args.part) c.args.letters.now (operand_told c.args.left) (operand_told c.args.right) operands
    (few_more c.args.few operands c.in-More.is few)
