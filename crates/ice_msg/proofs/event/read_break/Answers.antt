use Rattle.std.proofs.Common.{refl, lit<, arith}
use Rattle.std.specs.List.{Contains}
use Rattle.line_spec.specs.Messages.{event_codes}
use Rattle.ice_msg.proofs.Events.{break_length, break_read}
use Rattle.ice_msg.proofs.event.read_break.Goals as goal

known : Contains event_codes 0xE0
known = (0, lit< tt, refl)

pub returns-in_default : goal.returns-in_default
returns-in_default c = (known, break_length c.args.rest.now (λ five. omega arith))

pub returns-in_default-2 : goal.returns-in_default-2
returns-in_default-2 c = (known, break_length c.args.rest.now (λ five. omega arith))

pub returns : goal.returns
returns c =
    break_read c.args.rest.now c.from_le_bytes.result (λ i. omega (arith, c.type_inv.rest i)) (omega arith)
    c.from_le_bytes.type_inv c.from_le_bytes.ensures
