use Rattle.ice_msg.proofs.ReadBack.{event_back}
use Rattle.ice_msg.proofs.laws.an_event_is_read_back.Goals as goal

pub returns : goal.returns
returns c = event_back
