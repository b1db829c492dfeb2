use Rattle.debug_spec.proofs.LookLemmas.{runs_are_advanced}
use Rattle.debug_spec.proofs.laws.runs_are_advanced.Goals as goal

pub returns : goal.returns
returns c = runs_are_advanced
