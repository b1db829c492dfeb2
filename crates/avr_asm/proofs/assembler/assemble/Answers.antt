use Rattle.part_spec.specs.Chip.{chip_of}
use Rattle.avr_asm.proofs.Answering.{answers_error, answers_words}
use Rattle.avr_asm.proofs.assembler.assemble.Goals as goal

pub settled-requires : goal.settled-requires
settled-requires c = (c.in-Ok.ensures.0, c.in-Ok.ensures.2)

pub returns-in-Ok : goal.returns-in-Ok
returns-in-Ok c =
    answers_words (chip_of c.args.part) c.args.text.now c.in-Ok.ensures.0 c.settled.result c.if-text-gt-LARGEST.false c.in-Ok.ensures.1
    (c.settled.ensures c.in-Ok.ensures.0 c.in-Ok.ensures.2)

pub returns-in-Err : goal.returns-in-Err
returns-in-Err c = answers_error (chip_of c.args.part) c.args.text.now c.in-Err.error c.if-text-gt-LARGEST.false c.in-Err.ensures
