use Rattle.line_spec.proofs.ParameterLemmas.{has_size}
use Rattle.line_spec.proofs.parameters.a_value_has_its_size.Goals as goal

pub returns : goal.returns
returns c = has_size
