use Rattle.std.proofs.Common.{[], arith}
use Rattle.line_spec.specs.Messages.{write_memory}
use Rattle.ice_msg.proofs.Requests.{known, write_memory_short, write_memory_other, write_memory_read}
use Rattle.ice_msg.proofs.command.read_write_memory.Goals as goal

pub returns-in_default : goal.returns-in_default
returns-in_default c = (known (write_memory 0 0 []), write_memory_short c.args.rest.now (omega arith))

pub returns-then-count-bytes : goal.returns-then-count-bytes
returns-then-count-bytes c =
    (known (write_memory 0 0 []), write_memory_other c.args.rest.now c.from_le_bytes-count.result (omega arith) (omega arith) c.from_le_bytes-count.ensures)

pub returns : goal.returns
returns c =
    write_memory_read c.args.rest.now c.from_le_bytes-count.result c.from_le_bytes.result (λ i. omega (arith, c.type_inv.rest i)) (omega arith)
    c.from_le_bytes-count.type_inv c.from_le_bytes.type_inv (omega arith) c.from_le_bytes-count.ensures c.from_le_bytes.ensures
