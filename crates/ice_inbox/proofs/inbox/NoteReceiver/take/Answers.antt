use Rattle.ice_inbox.proofs.Posts.{takes}
use Rattle.ice_inbox.proofs.inbox.NoteReceiver.take.Goals as goal

pub recv_as-requires-clause-rule : goal.recv_as-requires-clause-rule
recv_as-requires-clause-rule g c = (takes _ _ c.loop.invariant.is.reads, λ items views holds at. tt)
