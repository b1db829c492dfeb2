use Rattle.ice_inbox.proofs.Posts.{target_sends}
use Rattle.ice_inbox.proofs.inbox.TargetSender.send.Goals as goal

pub post-requires-clause-rule : goal.post-requires-clause-rule
post-requires-clause-rule g c = target_sends _ _ _ _ c.self.invariant.targets c.self.invariant.lines c.self.invariant.room
