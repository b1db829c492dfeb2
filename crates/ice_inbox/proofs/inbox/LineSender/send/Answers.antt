use Rattle.std.proofs.Common.{◌≤◌, ◌∷◌, [], ◌++◌, sym, subst}
use Rattle.ice_inbox.specs.Ends.{Sent}
use Rattle.ice_inbox.specs.Notes.{bytes_in, line_limit}
use Rattle.ice_inbox.proofs.Posts.{line_sends}
use Rattle.ice_inbox.proofs.inbox.LineSender.send.Goals as goal

pub post-requires-clause-rule : goal.post-requires-clause-rule
post-requires-clause-rule g c =
    let P : Sent → Type 0 = λ s. bytes_in (s.sent ++ c.args.note ∷ []) ≤ line_limit in
    let bounded = subst P (sym c.self.view_is) c.requires.bounded in
    line_sends _ _ _ _ c.self.invariant.lines c.self.invariant.targets c.requires.of_line bounded c.self.invariant.room
