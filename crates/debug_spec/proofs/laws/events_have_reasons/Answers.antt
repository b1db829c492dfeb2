use Rattle.debug_spec.proofs.EventLemmas.{events_have_reasons, stops_are_asked, sign_offs_end}
use Rattle.debug_spec.proofs.laws.events_have_reasons.Goals as goal

pub returns-clause-events : goal.returns-clause-events
returns-clause-events c = events_have_reasons

pub returns-clause-stops : goal.returns-clause-stops
returns-clause-stops c = stops_are_asked

pub returns-clause-off : goal.returns-clause-off
returns-clause-off c = sign_offs_end
