use Rattle.line_spec.proofs.Cuts.{IsCut-frame}
use Rattle.line_spec.proofs.laws.a_written_frame_is_read.Goals as goal

pub returns : goal.returns
returns c = IsCut-frame
