use Rattle.std.proofs.Common.{[], arith}
use Rattle.line_spec.specs.Messages.{set_parameter}
use Rattle.ice_msg.proofs.Requests.{known, set_parameter_length, set_parameter_read}
use Rattle.ice_msg.proofs.command.read_set_parameter.Goals as goal

pub returns-in_default : goal.returns-in_default
returns-in_default c = (known (set_parameter 0 []), set_parameter_length c.args.rest.now (λ some. absurd (omega (arith, some))))

pub returns-then-value-le-VALUE_LIMIT : goal.returns-then-value-le-VALUE_LIMIT
returns-then-value-le-VALUE_LIMIT c =
    set_parameter_read c.args.rest.now (λ i. omega (arith, c.type_inv.rest i)) (omega arith) (omega arith)

pub returns-else-value-le-VALUE_LIMIT : goal.returns-else-value-le-VALUE_LIMIT
returns-else-value-le-VALUE_LIMIT c = (known (set_parameter 0 []), set_parameter_length c.args.rest.now (λ some. omega arith))
