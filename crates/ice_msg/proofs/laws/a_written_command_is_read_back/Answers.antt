use Rattle.ice_msg.proofs.ReadBack.{written_back}
use Rattle.ice_msg.proofs.laws.a_written_command_is_read_back.Goals as goal

pub returns : goal.returns
returns c = written_back
