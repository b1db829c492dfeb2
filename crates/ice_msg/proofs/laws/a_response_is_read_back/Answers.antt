use Rattle.ice_msg.proofs.ReadBack.{response_back}
use Rattle.ice_msg.proofs.laws.a_response_is_read_back.Goals as goal

pub returns : goal.returns
returns c = response_back
