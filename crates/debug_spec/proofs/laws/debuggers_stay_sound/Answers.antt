use Rattle.debug_spec.proofs.Moving.{events_move, only_programming_changes, opened_is_sound, runs_are_planted}
use Rattle.debug_spec.proofs.Sessions.{items_settle}
use Rattle.debug_spec.proofs.laws.debuggers_stay_sound.Goals as goal

pub returns-clause-start : goal.returns-clause-start
returns-clause-start c = opened_is_sound

pub returns-clause-events : goal.returns-clause-events
returns-clause-events c = events_move

pub returns-clause-settle : goal.returns-clause-settle
returns-clause-settle c = items_settle

pub returns-clause-runs : goal.returns-clause-runs
returns-clause-runs c = runs_are_planted

pub returns-clause-program : goal.returns-clause-program
returns-clause-program c = only_programming_changes
