use Rattle.script_laws.proofs.Replies.{request_answered, short_at_start}
use Rattle.script_laws.proofs.laws.requests_are_answered.Goals as goal

pub returns-clause-answered : goal.returns-clause-answered
returns-clause-answered c = request_answered

pub returns-clause-start : goal.returns-clause-start
returns-clause-start c = short_at_start
