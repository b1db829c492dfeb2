use Rattle.std.proofs.Common.{refl, lit<, arith}
use Rattle.ice_msg.proofs.Replies.{parameter_within}
use Rattle.ice_msg.proofs.response.read_parameter.Goals as goal

pub returns-else-rest-le-PARAMETER_LIMIT : goal.returns-else-rest-le-PARAMETER_LIMIT
returns-else-rest-le-PARAMETER_LIMIT c = ((1, lit< tt, refl), parameter_within c.args.rest.now (omega arith))
