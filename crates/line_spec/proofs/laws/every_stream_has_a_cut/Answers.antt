use Rattle.line_spec.proofs.Cuts.{has_cut}
use Rattle.line_spec.proofs.laws.every_stream_has_a_cut.Goals as goal

pub returns : goal.returns
returns c = has_cut
