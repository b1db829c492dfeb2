use Rattle.debug_spec.proofs.RunAlike.{clean_runs_alike, clean_ends_alike}
use Rattle.debug_spec.proofs.laws.clean_runs_are_the_programs.Goals as goal

pub returns-clause-runs : goal.returns-clause-runs
returns-clause-runs c = clean_runs_alike

pub returns-clause-ends : goal.returns-clause-ends
returns-clause-ends c = clean_ends_alike
