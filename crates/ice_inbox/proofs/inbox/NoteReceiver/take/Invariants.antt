use Rattle.std.proofs.Common.{◌≡◌}
use Rattle.ice_inbox.specs.Inside.{taken_of, IsReceiver}
use Rattle.ice_inbox.proofs.inbox.NoteReceiver.take.Given as goal

abbrev pub invariant-loop : goal.invariant-loop
invariant-loop g l = record {
  is : IsReceiver l.self-inside;
  same : taken_of l.self-inside.pass ≡ l.fn.self;
}
