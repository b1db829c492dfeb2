use Rattle.std.proofs.Common.{◌≢◌, length, arith}
use Rattle.std.proofs.lemmas.Bool.Decides.{nat_tests}
use Rattle.line_spec.specs.Messages.{set_break}
use Rattle.ice_msg.proofs.Requests.{known, set_break_length, set_break_read}
use Rattle.ice_msg.proofs.command.read_set_break.Goals as goal
use Rattle.ice_msg.proofs.command.read_set_break.Goals.{in_default-via-then-rest-lt7, in_default-via-else-rest-lt7+else-rest-lt8}

pub returns-in_default : goal.returns-in_default
returns-in_default c =
    let other : length c.args.rest.now ≢ 7 = elim c.in_default.branch [
      | in_default-via-then-rest-lt7 w ↦ grind (arith, nat_tests)
      | in_default-via-else-rest-lt7+else-rest-lt8 w ↦ grind (arith, nat_tests)
    ] in
    (known (set_break 0 0 0), set_break_length c.args.rest.now other)

pub returns : goal.returns
returns c =
    set_break_read c.args.rest.now c.from_le_bytes.result (λ i. omega (arith, c.type_inv.rest i)) (omega arith)
    c.from_le_bytes.type_inv c.from_le_bytes.ensures
