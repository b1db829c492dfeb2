use Rattle.std.proofs.Common.{ap, ◌∙◌}
use Rattle.ice_inbox.specs.declared.inbox.View.{View}
use Rattle.ice_inbox.proofs.Posts.{line_returns, compares}
use Rattle.ice_inbox.proofs.inbox.NoteReceiver.take_in.Goals as goal

pub absorb-requires-clause-rule : goal.absorb-requires-clause-rule
absorb-requires-clause-rule c = line_returns _ _ _ _ c.self.invariant.reads c.line.invariant.lines

pub learn_as-requires-clause-rule : goal.learn_as-requires-clause-rule
learn_as-requires-clause-rule c = compares _ _ (ap (λ (v : View). v.reads) c.absorb.ensures.rule ∙ c.self.invariant.reads)
