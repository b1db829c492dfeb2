use Rattle.std.proofs.Common.{◌≡◌}
use Rattle.crossbeam_channel.specs.Claims.{view, IsSeatAt}
use Rattle.crossbeam_channel.specs.Ends.{sends_on}
use Rattle.ice_inbox.proofs.inbox.post.Given as goal

abbrev pub invariant-loop : goal.invariant-loop
invariant-loop g l = record {
  at : IsSeatAt (sends_on l.end) l.pass;
  place : l.pass.id ≡ l.fn.pass.id;
  sent : view l.pass ≡ view l.fn.pass;
  same : l.note ≡ l.fn.note;
}
