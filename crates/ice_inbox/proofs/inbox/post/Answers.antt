use Rattle.std.proofs.Common.{ℕ, sym, subst}
use Rattle.crossbeam_channel.specs.Ends.{sends_on, ruled_capacity}
use Rattle.ice_inbox.specs.declared.inbox.Note.{Note}
use Rattle.ice_inbox.specs.declared.inbox.View.{View}
use Rattle.ice_inbox.specs.Posting.{MaySend}
use Rattle.ice_inbox.proofs.inbox.post.Goals as goal

pub send_as-requires-clause-rule : goal.send_as-requires-clause-rule
send_as-requires-clause-rule g c =
    let at = c.loop.invariant in
    let P : ℕ × View × Note → Type 0 = λ y. MaySend (ruled_capacity (sends_on c.args.end.now)) y.0 y.1 y.2 in
    (subst P (λ i. (sym at.place i, sym at.sent i, sym at.same i)) c.requires.rule, λ items views holds here. tt)
