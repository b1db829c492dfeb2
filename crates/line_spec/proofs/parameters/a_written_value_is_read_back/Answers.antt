use Rattle.line_spec.proofs.ParameterLemmas.{reads_back}
use Rattle.line_spec.proofs.parameters.a_written_value_is_read_back.Goals as goal

pub returns : goal.returns
returns c = reads_back
