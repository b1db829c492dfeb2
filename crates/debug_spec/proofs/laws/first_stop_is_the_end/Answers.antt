use Rattle.debug_spec.proofs.RunEnds.{one_end, natural_end_is_first, end_by_is_an_end, runs_go_on}
use Rattle.debug_spec.proofs.laws.first_stop_is_the_end.Goals as goal

pub returns-clause-first : goal.returns-clause-first
returns-clause-first c = natural_end_is_first

pub returns-clause-end : goal.returns-clause-end
returns-clause-end c = end_by_is_an_end

pub returns-clause-on : goal.returns-clause-on
returns-clause-on c = runs_go_on

pub returns-clause-one : goal.returns-clause-one
returns-clause-one c = one_end
