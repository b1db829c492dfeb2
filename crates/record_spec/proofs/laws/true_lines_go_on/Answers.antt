use Rattle.record_spec.proofs.Closing.{fronts_go_on, refuted_exactly}
use Rattle.record_spec.proofs.laws.true_lines_go_on.Goals as goal

pub returns-clause-fronts : goal.returns-clause-fronts
returns-clause-fronts c = fronts_go_on

pub returns-clause-refuted : goal.returns-clause-refuted
returns-clause-refuted c = refuted_exactly
