use Rattle.line_spec.proofs.Bodies.{one_response}
use Rattle.line_spec.proofs.laws.one_response_a_body.Goals as goal

pub returns : goal.returns
returns c = one_response
