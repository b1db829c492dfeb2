use Rattle.debug_spec.proofs.CleanExact.{clean_for_each_step, clean_to_its_end}
use Rattle.debug_spec.proofs.clean_laws.clean_runs_have_clean_steps.Goals as goal

pub returns-clause-steps : goal.returns-clause-steps
returns-clause-steps c = clean_for_each_step

pub returns-clause-end : goal.returns-clause-end
returns-clause-end c = clean_to_its_end
