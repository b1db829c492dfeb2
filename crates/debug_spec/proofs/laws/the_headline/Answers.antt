use Rattle.debug_spec.proofs.HeadlineProof.{replays_agree, schedules_agree, schedules_pass, items_send_first}
use Rattle.debug_spec.proofs.laws.the_headline.Goals as goal

pub returns-clause-replays : goal.returns-clause-replays
returns-clause-replays c = replays_agree

pub returns-clause-schedules : goal.returns-clause-schedules
returns-clause-schedules c = schedules_agree

pub returns-clause-passes : goal.returns-clause-passes
returns-clause-passes c = schedules_pass

pub returns-clause-items : goal.returns-clause-items
returns-clause-items c = items_send_first
