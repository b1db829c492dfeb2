use Rattle.std.proofs.Common.{◌≢◌, length, arith}
use Rattle.std.proofs.lemmas.Bool.Decides.{nat_tests}
use Rattle.line_spec.specs.Messages.{get_parameter}
use Rattle.ice_msg.proofs.Requests.{known, get_parameter_length, get_parameter_read}
use Rattle.ice_msg.proofs.command.read_get_parameter.Goals as goal
use Rattle.ice_msg.proofs.command.read_get_parameter.Goals.{in_default-via-then-rest-lt1, in_default-via-else-rest-lt1+else-rest-lt2}

pub returns-in_default : goal.returns-in_default
returns-in_default c =
    let other : length c.args.rest.now ≢ 1 = elim c.in_default.branch [
      | in_default-via-then-rest-lt1 w ↦ grind (arith, nat_tests)
      | in_default-via-else-rest-lt1+else-rest-lt2 w ↦ grind (arith, nat_tests)
    ] in
    (known (get_parameter 0), get_parameter_length c.args.rest.now other)

pub returns : goal.returns
returns c = get_parameter_read c.args.rest.now (λ i. omega (arith, c.type_inv.rest i)) (omega arith)
