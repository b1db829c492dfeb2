use Rattle.std.proofs.Common.{refl, lit<, arith}
use Rattle.ice_msg.proofs.Replies.{memory_within}
use Rattle.ice_msg.proofs.response.read_memory.Goals as goal

pub returns-else-rest-le-MEMORY_LIMIT : goal.returns-else-rest-le-MEMORY_LIMIT
returns-else-rest-le-MEMORY_LIMIT c = ((2, lit< tt, refl), memory_within c.args.rest.now (omega arith))
