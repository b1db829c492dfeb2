use Rattle.debug_spec.proofs.ScheduleEndLemmas.{ends_fix_schedules, ends_are_one}
use Rattle.debug_spec.proofs.laws.ends_fix_schedules.Goals as goal

pub returns-clause-schedules : goal.returns-clause-schedules
returns-clause-schedules c = ends_fix_schedules

pub returns-clause-ends : goal.returns-clause-ends
returns-clause-ends c = ends_are_one
