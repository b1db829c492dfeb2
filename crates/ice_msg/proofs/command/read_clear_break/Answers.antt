use Rattle.std.proofs.Common.{◌≢◌, length, arith}
use Rattle.std.proofs.lemmas.Bool.Decides.{nat_tests}
use Rattle.line_spec.specs.Messages.{clear_break}
use Rattle.ice_msg.proofs.Requests.{known, clear_break_length, clear_break_read}
use Rattle.ice_msg.proofs.command.read_clear_break.Goals as goal
use Rattle.ice_msg.proofs.command.read_clear_break.Goals.{in_default-via-then-rest-lt5, in_default-via-else-rest-lt5+else-rest-lt6}

pub returns-in_default : goal.returns-in_default
returns-in_default c =
    let other : length c.args.rest.now ≢ 5 = elim c.in_default.branch [
      | in_default-via-then-rest-lt5 w ↦ grind (arith, nat_tests)
      | in_default-via-else-rest-lt5+else-rest-lt6 w ↦ grind (arith, nat_tests)
    ] in
    (known (clear_break 0 0), clear_break_length c.args.rest.now other)

pub returns : goal.returns
returns c =
    clear_break_read c.args.rest.now c.from_le_bytes.result (λ i. omega (arith, c.type_inv.rest i)) (omega arith)
    c.from_le_bytes.type_inv c.from_le_bytes.ensures
