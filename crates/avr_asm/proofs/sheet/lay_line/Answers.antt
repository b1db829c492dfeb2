use Rattle.part_spec.specs.Chip.{chip_of}
use Rattle.part_spec.proofs.Numbers.{words-small}
use Rattle.avr_asm.proofs.LineKeeping.{follows_order, follows_label}
use Rattle.avr_asm.proofs.sheet.lay_line.Goals as goal

pub lay_order-requires : goal.lay_order-requires
lay_order-requires c =
    let named = c.in-Ok-lay_label.ensures (chip_of c.args.part) c.requires.0 c.requires.1 in
    (named.0, named.2)

pub returns-in-Ok-lay_label : goal.returns-in-Ok-lay_label
returns-in-Ok-lay_label c = λ laid keeps.
    let named = c.in-Ok-lay_label.ensures (chip_of c.args.part) laid keeps in
    follows_order (chip_of c.args.part) c.args.number c.args.line.now laid c.in-Ok.said c.in-Ok.ensures c.lay_order.result c.lay_order.new.sheet
    named.0 named.1 (words-small c.args.part) (λ fits. c.lay_order.ensures named.0 named.2 fits)

pub returns-in-Err-lay_label : goal.returns-in-Err-lay_label
returns-in-Err-lay_label c = λ laid keeps.
    follows_label (chip_of c.args.part) c.args.number c.args.line.now laid c.in-Ok.said c.in-Ok.ensures c.in-Err-lay_label.stop c.lay_label.new.sheet
    (c.in-Err-lay_label.ensures (chip_of c.args.part) laid keeps)
