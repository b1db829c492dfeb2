use Rattle.line_spec.proofs.HeardLemmas.{one_request}
use Rattle.line_spec.proofs.heard.one_request_a_body.Goals as goal

pub returns : goal.returns
returns c = one_request
