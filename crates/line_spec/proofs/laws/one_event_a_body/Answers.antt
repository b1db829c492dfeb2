use Rattle.line_spec.proofs.Bodies.{one_event}
use Rattle.line_spec.proofs.laws.one_event_a_body.Goals as goal

pub returns : goal.returns
returns c = one_event
