use Rattle.std.proofs.Common.{◌≢◌, length, arith}
use Rattle.std.proofs.lemmas.Bool.Decides.{nat_tests}
use Rattle.line_spec.specs.Messages.{erase_page}
use Rattle.ice_msg.proofs.Requests.{known, erase_page_length, erase_page_read}
use Rattle.ice_msg.proofs.command.read_erase_page.Goals as goal
use Rattle.ice_msg.proofs.command.read_erase_page.Goals.{in_default-via-then-rest-lt4, in_default-via-else-rest-lt4+else-rest-lt5}

pub returns-in_default : goal.returns-in_default
returns-in_default c =
    let other : length c.args.rest.now ≢ 4 = elim c.in_default.branch [
      | in_default-via-then-rest-lt4 w ↦ grind (arith, nat_tests)
      | in_default-via-else-rest-lt4+else-rest-lt5 w ↦ grind (arith, nat_tests)
    ] in
    (known (erase_page 0), erase_page_length c.args.rest.now other)

pub returns : goal.returns
returns c =
    erase_page_read c.args.rest.now c.from_le_bytes.result (λ i. omega (arith, c.type_inv.rest i)) (omega arith)
    c.from_le_bytes.type_inv c.from_le_bytes.ensures
