use Rattle.line_spec.proofs.ParameterLemmas.{state_not_written}
use Rattle.line_spec.proofs.parameters.mcu_state_is_the_state.Goals as goal

pub returns-clause-written : goal.returns-clause-written
returns-clause-written c = state_not_written
