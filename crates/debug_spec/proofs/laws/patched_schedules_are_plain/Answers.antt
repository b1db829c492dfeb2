use Rattle.debug_spec.proofs.ServedLemmas.{clean_schedules_alike, clean_is_schedule, served_alike}
use Rattle.debug_spec.proofs.laws.patched_schedules_are_plain.Goals as goal

pub returns-clause-clean : goal.returns-clause-clean
returns-clause-clean c = clean_schedules_alike

pub returns-clause-schedule : goal.returns-clause-schedule
returns-clause-schedule c = clean_is_schedule

pub returns-clause-first : goal.returns-clause-first
returns-clause-first c = served_alike
