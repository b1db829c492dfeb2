use Rattle.debug_spec.proofs.ScheduleCutLemmas.{every_note_is_cut_short, one_schedule_cut_short, schedules_cut_short_show}
use Rattle.debug_spec.proofs.laws.schedules_are_cut_short.Goals as goal

pub returns-clause-every : goal.returns-clause-every
returns-clause-every c = every_note_is_cut_short

pub returns-clause-one : goal.returns-clause-one
returns-clause-one c = one_schedule_cut_short

pub returns-clause-shows : goal.returns-clause-shows
returns-clause-shows c = schedules_cut_short_show
