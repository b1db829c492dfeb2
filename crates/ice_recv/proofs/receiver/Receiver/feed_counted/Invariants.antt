use Rattle.std.proofs.Common.{◌-◌, ◌≤◌, ◌+◌, ◌*◌, length}
use Rattle.ice_recv.specs.Receiving.{frame_limit}
use Rattle.ice_recv.proofs.Feedings.{IsFed}
use Rattle.ice_recv.proofs.receiver.Receiver.feed_counted.Given as goal

abbrev pub invariant-bytes : goal.invariant-bytes
invariant-bytes l = record {
  fed : IsFed l.fn.self l.bytes l.taken l.waiting l.self;
  within : l.taken ≤ length l.bytes;
  cost : l.looks ≤ l.fn.looks + l.taken + frame_limit * length fed.drops.items;
}

abbrev pub decreases-bytes : goal.decreases-bytes
decreases-bytes l = length l.bytes - l.taken
