use Rattle.std.proofs.Common.{◌≤◌, ◌+◌, ◌-◌, length}
use Rattle.frame_listing.proofs.Chunking.{Going}
use Rattle.frame_listing.proofs.stream.list_chunk.Given as goal

abbrev pub invariant-frames : goal.invariant-frames
invariant-frames g l = record {
  within : l.used ≤ length l.chunk;
  behind : l.listed ≤ l.receiver.dropped;
  counts : l.receiver.dropped + length l.receiver.held ≤ l.fn.receiver.dropped + length l.fn.receiver.held + l.used;
  faults : g.K.Sink.faults l.fn.sink ≤ g.K.Sink.faults l.sink;
  going : Going l.fn.receiver l.fn.listed l.chunk l.used l.receiver l.listed (g.K.Sink.written l.fn.sink) (g.K.Sink.written l.sink)
      (g.K.Sink.faults l.fn.sink) (g.K.Sink.faults l.sink);
}

abbrev pub decreases-frames : goal.decreases-frames
decreases-frames g l = length l.receiver.held + (length l.chunk - l.used)
