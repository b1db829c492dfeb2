use Rattle.line_spec.proofs.ParameterLemmas.{leaves_others}
use Rattle.line_spec.proofs.parameters.a_write_leaves_the_others.Goals as goal

pub returns : goal.returns
returns c = leaves_others
