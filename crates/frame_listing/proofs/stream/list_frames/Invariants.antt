use Rattle.std.proofs.Common.{◌≡◌, ◌≤◌, ◌+◌, length}
use Rattle.line_spec.specs.Frames.{IsPartial}
use Rattle.ice_line.specs.Reads.{input_limit}
use Rattle.frame_listing.proofs.Streaming.{Reading}
use Rattle.frame_listing.proofs.stream.list_frames.Given as goal

abbrev pub invariant-chunks : goal.invariant-chunks
invariant-chunks g l = record {
  partial : IsPartial l.receiver.held;
  behind : l.listed ≤ l.receiver.dropped;
  size : length l.buffer ≡ 512;
  counts : l.receiver.dropped + length l.receiver.held + l.allowed ≤ input_limit;
  source_counts : g.S.Source.faults l.source ≡ g.S.Source.faults l.fn.source;
  sink_counts : g.K.Sink.faults l.sink ≡ g.K.Sink.faults l.fn.sink;
  reads : Reading (g.S.Source.left l.fn.source) (g.S.Source.left l.source) (g.K.Sink.written l.fn.sink) (g.K.Sink.written l.sink)
      (g.K.Sink.faults l.fn.sink) (g.K.Sink.faults l.sink) l.allowed l.receiver l.listed;
}

abbrev pub decreases-chunks : goal.decreases-chunks
decreases-chunks g l = l.allowed
