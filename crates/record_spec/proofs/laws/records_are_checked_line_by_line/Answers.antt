use Rattle.record_spec.proofs.OneLines.{one_line}
use Rattle.record_spec.proofs.Ways.{one_way, comes_alone, fronts_are_true}
use Rattle.record_spec.proofs.laws.records_are_checked_line_by_line.Goals as goal

pub returns-clause-text : goal.returns-clause-text
returns-clause-text c = one_line

pub returns-clause-one : goal.returns-clause-one
returns-clause-one c = one_way

pub returns-clause-alone : goal.returns-clause-alone
returns-clause-alone c = comes_alone

pub returns-clause-fronts : goal.returns-clause-fronts
returns-clause-fronts c = fronts_are_true
