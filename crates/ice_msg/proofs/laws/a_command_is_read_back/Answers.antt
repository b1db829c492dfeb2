use Rattle.ice_msg.proofs.ReadBack.{command_back}
use Rattle.ice_msg.proofs.laws.a_command_is_read_back.Goals as goal

pub returns : goal.returns
returns c = command_back
