use Rattle.std.proofs.Common.{length, ◌-◌}
use Rattle.ice_answer.proofs.Fed.{AreFed}
use Rattle.ice_answer.proofs.feeding.feed_all.Given as goal

abbrev pub invariant-feeds : goal.invariant-feeds
invariant-feeds l = AreFed l.fn.receiver l.bytes l.used l.receiver

abbrev pub decreases-feeds : goal.decreases-feeds
decreases-feeds l = length l.bytes - l.used
