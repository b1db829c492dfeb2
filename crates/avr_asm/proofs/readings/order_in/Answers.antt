use Rattle.std.proofs.Common.{List, ℕ, sym, ap, ◌∙◌}
use Rattle.part_spec.specs.Chip.{chip_of}
use Rattle.asm_spec.specs.Tokens.{statement_of}
use Rattle.asm_spec.specs.Reading.{order_of}
use Rattle.avr_asm.specs.Orders.{capped_answer}
use Rattle.avr_asm.proofs.Colons.{order_some}
use Rattle.avr_asm.proofs.readings.order_in.Goals as goal

pub returns : goal.returns
returns c =
    c.order_of.ensures (statement_of c.args.bytes.now).operands c.statement_of.ensures.operands
    ∙ ap (λ (name : List ℕ). capped_answer (order_of (chip_of c.args.part) (record { name = name; operands = (statement_of c.args.bytes.now).operands })))
    c.statement_of.ensures.name
    ∙ sym (ap capped_answer (order_some (chip_of c.args.part) c.args.bytes.now c.is_empty.result c.is_empty.ensures c.if-is_empty.false))
