use Rattle.std.proofs.Common.{◌≢◌, length, arith}
use Rattle.std.proofs.lemmas.Bool.Decides.{nat_tests}
use Rattle.line_spec.specs.Messages.{read_memory}
use Rattle.ice_msg.proofs.Requests.{known, read_memory_length, read_memory_read}
use Rattle.ice_msg.proofs.command.read_memory.Goals as goal
use Rattle.ice_msg.proofs.command.read_memory.Goals.{in_default-via-then-rest-lt9, in_default-via-else-rest-lt9+else-rest-lt10}

pub returns-in_default : goal.returns-in_default
returns-in_default c =
    let other : length c.args.rest.now ≢ 9 = elim c.in_default.branch [
      | in_default-via-then-rest-lt9 w ↦ grind (arith, nat_tests)
      | in_default-via-else-rest-lt9+else-rest-lt10 w ↦ grind (arith, nat_tests)
    ] in
    (known (read_memory 0 0 0), read_memory_length c.args.rest.now other)

pub returns : goal.returns
returns c =
    read_memory_read c.args.rest.now c.from_le_bytes.result c.from_le_bytes-2.result (λ i. omega (arith, c.type_inv.rest i)) (omega arith)
    c.from_le_bytes.type_inv c.from_le_bytes-2.type_inv c.from_le_bytes.ensures c.from_le_bytes-2.ensures
