use Rattle.debug_spec.proofs.PinnedLemmas.{schedules_are_cut, replays_are_schedules}
use Rattle.debug_spec.proofs.laws.schedules_are_pinned.Goals as goal

pub returns-clause-cut : goal.returns-clause-cut
returns-clause-cut c = schedules_are_cut

pub returns-clause-replays : goal.returns-clause-replays
returns-clause-replays c = replays_are_schedules
