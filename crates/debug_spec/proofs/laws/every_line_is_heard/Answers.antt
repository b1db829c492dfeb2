use Rattle.debug_spec.proofs.Hearings.{every_line_is_heard}
use Rattle.debug_spec.proofs.OneChunk.{one_replay}
use Rattle.debug_spec.proofs.EndsNow.{ends_now_may_come}
use Rattle.debug_spec.proofs.laws.every_line_is_heard.Goals as goal

pub returns-clause-heard : goal.returns-clause-heard
returns-clause-heard c = every_line_is_heard

pub returns-clause-one : goal.returns-clause-one
returns-clause-one c = one_replay

pub returns-clause-ends : goal.returns-clause-ends
returns-clause-ends c = ends_now_may_come
