use Rattle.line_spec.proofs.FrameBytes.{same_begins}
use Rattle.line_spec.proofs.laws.no_frame_begins_another.Goals as goal

pub returns : goal.returns
returns c = λ bytes frame other behind other_behind. same_begins bytes behind other_behind frame other
