use Rattle.script_laws.proofs.Streams.{front_of}
use Rattle.script_laws.proofs.laws.fronts_are_frames.Goals as goal

pub returns : goal.returns
returns c = front_of
