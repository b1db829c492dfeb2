use Rattle.std.proofs.Common.{ap}
use Rattle.host_session.specs.Standing.{Hosted}
use Rattle.host_session.proofs.Answering.{event_fails}
use Rattle.host_session.proofs.host.Host.receive_event.Goals as goal

pub returns-in-Err-clause-comes : goal.returns-in-Err-clause-comes
returns-in-Err-clause-comes g c = event_fails _ _ _ _ _ (ap (λ (host : Hosted _). host.standing) c.self.view_is) c.in-Err.ensures.awaits
