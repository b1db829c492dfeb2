use Rattle.shell_spec.proofs.Made.{made_are_replays, one_frame_more}
use Rattle.shell_spec.proofs.laws.made_sessions_are_replays.Goals as goal

pub returns-clause-replay : goal.returns-clause-replay
returns-clause-replay c = made_are_replays

pub returns-clause-frames : goal.returns-clause-frames
returns-clause-frames c = one_frame_more
