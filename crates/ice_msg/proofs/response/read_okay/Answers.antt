use Rattle.std.proofs.Common.{◌<◌, length, refl, lit<, arith}
use Rattle.std.proofs.lemmas.Bool.Decides.{nat_tests}
use Rattle.ice_msg.proofs.Replies.{okay_alone}
use Rattle.ice_msg.proofs.response.read_okay.Goals as goal

pub returns-else-is_empty : goal.returns-else-is_empty
returns-else-is_empty c =
    let longer : 0 < length c.args.rest.now = grind (arith, nat_tests) in
    ((0, lit< tt, refl), okay_alone c.args.rest.now longer)
