use Rattle.ice_top.proofs.WordLemmas.{call_named}
use Rattle.ice_top.proofs.words.call_of.Goals as goal

pub returns-in-None : goal.returns-in-None
returns-in-None c = call_named c.args.words.now c.named_call.result c.in-None.ensures c.named_call.ensures
