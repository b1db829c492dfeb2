use Rattle.debug_spec.proofs.CutShortLemmas.{opened_has_program, every_frame_is_cut_short, one_cut_short, cuts_short_show}
use Rattle.debug_spec.proofs.laws.replays_are_cut_short.Goals as goal

pub returns-clause-opened : goal.returns-clause-opened
returns-clause-opened c = opened_has_program

pub returns-clause-every : goal.returns-clause-every
returns-clause-every c = every_frame_is_cut_short

pub returns-clause-one : goal.returns-clause-one
returns-clause-one c = one_cut_short

pub returns-clause-shows : goal.returns-clause-shows
returns-clause-shows c = cuts_short_show
