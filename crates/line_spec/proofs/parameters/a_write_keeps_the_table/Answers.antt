use Rattle.line_spec.proofs.ParameterLemmas.{keeps_table}
use Rattle.line_spec.proofs.parameters.a_write_keeps_the_table.Goals as goal

pub returns-clause-written : goal.returns-clause-written
returns-clause-written c = keeps_table
