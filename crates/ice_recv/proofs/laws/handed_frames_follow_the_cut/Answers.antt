use Rattle.ice_recv.proofs.Handings.{follows_cut}
use Rattle.ice_recv.proofs.laws.handed_frames_follow_the_cut.Goals as goal

pub returns : goal.returns
returns c = follows_cut
