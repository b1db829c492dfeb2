use Rattle.debug_spec.proofs.HeadlineLemmas.{clean_events_alike, clean_replays_alike, replays_alike_at_first}
use Rattle.debug_spec.proofs.laws.patched_replays_are_plain.Goals as goal

pub returns-clause-events : goal.returns-clause-events
returns-clause-events c = clean_events_alike

pub returns-clause-replays : goal.returns-clause-replays
returns-clause-replays c = clean_replays_alike

pub returns-clause-first : goal.returns-clause-first
returns-clause-first c = replays_alike_at_first
