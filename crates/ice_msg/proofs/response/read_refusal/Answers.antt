use Rattle.std.proofs.Common.{◌<◌, length, arith}
use Rattle.std.proofs.lemmas.Bool.Decides.{nat_tests}
use Rattle.ice_msg.proofs.Replies.{refusal_has_code, refusal_alone}
use Rattle.ice_msg.proofs.response.read_refusal.Goals as goal

pub returns-else-is_empty : goal.returns-else-is_empty
returns-else-is_empty c =
    let longer : 0 < length c.args.rest.now = grind (arith, nat_tests) in
    (refusal_has_code c.args.refusal, refusal_alone c.args.refusal c.args.rest.now longer)
