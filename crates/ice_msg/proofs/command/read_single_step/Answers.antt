use Rattle.std.proofs.Common.{◌≢◌, length, arith}
use Rattle.std.proofs.lemmas.Bool.Decides.{nat_tests}
use Rattle.line_spec.specs.Messages.{single_step}
use Rattle.ice_msg.proofs.Requests.{known, step_length}
use Rattle.ice_msg.proofs.command.read_single_step.Goals as goal

pub returns-else-rest-eq2 : goal.returns-else-rest-eq2
returns-else-rest-eq2 c =
    let some : length c.args.rest.now ≢ 0 = grind (arith, nat_tests, c.is_empty.ensures, c.if-rest-eq2.false.0) in
    (known single_step, step_length c.args.rest.now some c.if-rest-eq2.false.1)
