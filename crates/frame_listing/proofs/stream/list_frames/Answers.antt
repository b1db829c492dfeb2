use Rattle.std.proofs.Common.{ℕ, ◌-◌, List, [], length, take, refl, sym, ap, ◌∙◌, subst, arith}
use Rattle.std.proofs.lemmas.List.{length-take-le}
use Rattle.std.specs.Io.KnownBytes.{Consumes}
use Rattle.line_spec.specs.Frames.{IsPartial}
use Rattle.line_spec.proofs.Cuts.{IsPartial-nil}
use Rattle.ice_line.specs.Lines.{line_at}
use Rattle.ice_line.specs.Reads.{input_limit}
use Rattle.ice_recv.specs.Received.{Received}
use Rattle.frame_listing.specs.Endings.{IsListed}
use Rattle.frame_listing.specs.declared.stream.ListingEnd.{ListingEnd}
use Rattle.frame_listing.proofs.Streaming.{Reading, reading_start, reading_more, unput, ends_okay, ends_failed, ends_long}
use Rattle.frame_listing.proofs.stream.list_frames.Goals as goal

pub chunks-init : goal.chunks-init
chunks-init g c = record {
  partial = subst IsPartial (sym (ap (λ (r : Received). r.held) c.requires.fresh)) IsPartial-nil;
  behind = omega arith;
  size = refl;
  counts = omega (arith, ap (λ (r : Received). r.dropped) c.requires.fresh, ap (λ (r : Received). length r.held) c.requires.fresh);
  source_counts = refl;
  sink_counts = refl;
  reads = subst (λ (r : Received). Reading (g.S.Source.left c.args.source.now) (g.S.Source.left c.args.source.now)
      (g.K.Sink.written c.args.sink.now) (g.K.Sink.written c.args.sink.now) (g.K.Sink.faults c.args.sink.now)
      (g.K.Sink.faults c.args.sink.now) input_limit r 0) (sym c.requires.fresh)
      (reading_start (g.S.Source.left c.args.source.now) (g.K.Sink.written c.args.sink.now) (g.K.Sink.faults c.args.sink.now));
}

pub chunks-preserved : goal.chunks-preserved
chunks-preserved g c = record {
  partial = c.if-not-list_chunk.ensures.lists.3;
  behind = c.list_chunk.ensures.behind;
  size = c.next_bytes.array_long;
  counts = omega (arith, c.list_chunk.ensures.counts, c.chunks.invariant.counts, c.split_at.ensures.front_len, c.in-Bytes.ensures.takes.1, c.min.ensures);
  source_counts = c.in-Bytes.ensures.takes.3 ∙ c.chunks.invariant.source_counts;
  sink_counts = c.if-not-list_chunk.ensures.lists.2.1 ∙ c.chunks.invariant.sink_counts;
  reads =
      subst (λ (n : ℕ). Reading (g.S.Source.left c.args.source.now) (g.S.Source.left c.next_bytes.new.source) (g.K.Sink.written c.args.sink.now)
      (g.K.Sink.written c.list_chunk.new.sink) (g.K.Sink.faults c.args.sink.now) (g.K.Sink.faults c.list_chunk.new.sink) (c.chunks.allowed - n)
      c.list_chunk.new.receiver c.list_chunk.new.listed) c.split_at.ensures.front_len
      (reading_more (g.S.Source.left c.args.source.now) (g.S.Source.left c.chunks.source) (g.S.Source.left c.next_bytes.new.source)
      (g.K.Sink.written c.args.sink.now) (g.K.Sink.written c.chunks.sink) (g.S.Source.faults c.args.source.now) (g.S.Source.faults c.chunks.source)
      (g.K.Sink.faults c.args.sink.now) (g.K.Sink.faults c.chunks.sink) c.chunks.allowed c.chunks.receiver c.chunks.listed
      c.chunks.invariant.reads c.chunks.invariant.source_counts
      c.split_at.result.0.now
      (subst (λ (l : List ℕ). Consumes (g.S.Source.left c.chunks.source) (g.S.Source.left c.next_bytes.new.source) l) (sym c.split_at.ensures.front)
      c.in-Bytes.ensures.takes.2) c.list_chunk.ensures.bytes
      (omega (arith, c.split_at.ensures.front_len, c.in-Bytes.ensures.takes.1, c.min.ensures))
      c.list_chunk.new.receiver c.list_chunk.new.listed (g.K.Sink.written c.list_chunk.new.sink) (g.K.Sink.faults c.list_chunk.new.sink) c.if-not-list_chunk.ensures.lists);
}

pub returns-then-not-list_chunk-clause-listed : goal.returns-then-not-list_chunk-clause-listed
returns-then-not-list_chunk-clause-listed g c =
    unput (g.S.Source.left c.args.source.now) (g.S.Source.left c.chunks.source) (g.S.Source.left c.next_bytes.new.source)
    (g.K.Sink.written c.args.sink.now) (g.K.Sink.written c.chunks.sink) (g.S.Source.faults c.args.source.now) (g.S.Source.faults c.chunks.source)
    (g.K.Sink.faults c.args.sink.now) (g.K.Sink.faults c.chunks.sink) c.chunks.allowed c.chunks.receiver c.chunks.listed
    c.chunks.invariant.reads c.chunks.invariant.source_counts
    c.split_at.result.0.now
    (subst (λ (l : List ℕ). Consumes (g.S.Source.left c.chunks.source) (g.S.Source.left c.next_bytes.new.source) l) (sym c.split_at.ensures.front)
    c.in-Bytes.ensures.takes.2) c.list_chunk.ensures.bytes
    (omega (arith, c.split_at.ensures.front_len, c.in-Bytes.ensures.takes.1, c.min.ensures))
    c.list_chunk.new.receiver c.list_chunk.new.listed (g.K.Sink.written c.list_chunk.new.sink) (g.K.Sink.faults c.list_chunk.new.sink) (g.S.Source.faults c.next_bytes.new.source) c.in-Bytes.ensures.takes.3 c.if-not-list_chunk.ensures.lists

pub returns-in-End-clause-listed : goal.returns-in-End-clause-listed
returns-in-End-clause-listed g c =
    subst (λ (x : ListingEnd). IsListed x (line_at (g.S.Source.left c.args.source.now) (g.S.Source.faults c.args.source.now)
    (g.K.Sink.written c.args.sink.now) (g.K.Sink.faults c.args.sink.now)) (line_at (g.S.Source.left c.next_bytes.new.source)
    (g.S.Source.faults c.next_bytes.new.source) (g.K.Sink.written c.finish.new.sink) (g.K.Sink.faults c.finish.new.sink)))
    (sym c.finish.ensures.ends.1)
    (ends_okay (g.S.Source.left c.args.source.now) (g.S.Source.left c.chunks.source) (g.S.Source.left c.next_bytes.new.source)
    (g.K.Sink.written c.args.sink.now) (g.K.Sink.written c.chunks.sink) (g.S.Source.faults c.args.source.now) (g.S.Source.faults c.chunks.source)
    (g.K.Sink.faults c.args.sink.now) (g.K.Sink.faults c.chunks.sink) c.chunks.allowed c.chunks.receiver c.chunks.listed
    c.chunks.invariant.reads c.chunks.invariant.source_counts
    c.chunks.invariant.partial (g.S.Source.faults c.next_bytes.new.source) (g.K.Sink.written c.finish.new.sink) (g.K.Sink.faults c.finish.new.sink)
    c.finish.ensures.ends.0 c.in-End.ensures.takes.0 c.in-End.ensures.takes.1 c.in-End.ensures.takes.2 c.finish.ensures.ends.2)

pub returns-in-Fault-clause-listed : goal.returns-in-Fault-clause-listed
returns-in-Fault-clause-listed g c =
    ends_failed (g.S.Source.left c.args.source.now) (g.S.Source.left c.chunks.source) (g.S.Source.left c.next_bytes.new.source)
    (g.K.Sink.written c.args.sink.now) (g.K.Sink.written c.chunks.sink) (g.S.Source.faults c.args.source.now) (g.S.Source.faults c.chunks.source)
    (g.K.Sink.faults c.args.sink.now) (g.K.Sink.faults c.chunks.sink) c.chunks.allowed c.chunks.receiver c.chunks.listed
    c.chunks.invariant.reads c.chunks.invariant.source_counts
    c.chunks.invariant.partial [] c.in-Fault.ensures.takes.0 (omega arith) (g.S.Source.faults c.next_bytes.new.source)
    (g.K.Sink.written c.finish-in-Fault.new.sink) (g.K.Sink.faults c.finish-in-Fault.new.sink) c.finish-in-Fault.ensures.ends.0 c.finish-in-Fault.ensures.ends.2
    c.finish-in-Fault.result c.finish-in-Fault.ensures.ends.1 refl c.in-Fault.ensures.takes.1

pub returns-in-Bytes-next_bytes-clause-listed : goal.returns-in-Bytes-next_bytes-clause-listed
returns-in-Bytes-next_bytes-clause-listed g c =
    let size = length-take-le c.in-Bytes-next_bytes.field-0 c.next_bytes-2.new.buffer (omega (arith, c.in-Bytes-next_bytes.ensures.takes.1, c.next_bytes-2.array_long)) in
    ends_long (g.S.Source.left c.args.source.now) (g.S.Source.left c.chunks.source) (g.S.Source.left c.next_bytes-2.new.source)
    (g.K.Sink.written c.args.sink.now) (g.K.Sink.written c.chunks.sink) (g.S.Source.faults c.args.source.now) (g.S.Source.faults c.chunks.source)
    (g.K.Sink.faults c.args.sink.now) (g.K.Sink.faults c.chunks.sink) c.chunks.allowed c.chunks.receiver c.chunks.listed
    c.chunks.invariant.reads c.chunks.invariant.source_counts
    c.chunks.invariant.partial (take c.in-Bytes-next_bytes.field-0 c.next_bytes-2.new.buffer) c.in-Bytes-next_bytes.ensures.takes.2
    (omega (arith, c.in-Bytes-next_bytes.ensures.takes.1, size)) (g.S.Source.faults c.next_bytes-2.new.source)
    (g.K.Sink.written c.finish-in-Bytes-next_bytes.new.sink) (g.K.Sink.faults c.finish-in-Bytes-next_bytes.new.sink) c.finish-in-Bytes-next_bytes.ensures.ends.0 c.finish-in-Bytes-next_bytes.ensures.ends.2
    c.finish-in-Bytes-next_bytes.result c.finish-in-Bytes-next_bytes.ensures.ends.1 (omega (arith, c.chunks-test.false))
    (omega (arith, c.in-Bytes-next_bytes.ensures.takes.0, c.in-Bytes-next_bytes.ensures.takes.1, size)) c.in-Bytes-next_bytes.ensures.takes.3

pub returns-in-End-next_bytes-clause-listed : goal.returns-in-End-next_bytes-clause-listed
returns-in-End-next_bytes-clause-listed g c =
    subst (λ (x : ListingEnd). IsListed x (line_at (g.S.Source.left c.args.source.now) (g.S.Source.faults c.args.source.now)
    (g.K.Sink.written c.args.sink.now) (g.K.Sink.faults c.args.sink.now)) (line_at (g.S.Source.left c.next_bytes-2.new.source)
    (g.S.Source.faults c.next_bytes-2.new.source) (g.K.Sink.written c.finish-in-End-next_bytes.new.sink) (g.K.Sink.faults c.finish-in-End-next_bytes.new.sink)))
    (sym c.finish-in-End-next_bytes.ensures.ends.1)
    (ends_okay (g.S.Source.left c.args.source.now) (g.S.Source.left c.chunks.source) (g.S.Source.left c.next_bytes-2.new.source)
    (g.K.Sink.written c.args.sink.now) (g.K.Sink.written c.chunks.sink) (g.S.Source.faults c.args.source.now) (g.S.Source.faults c.chunks.source)
    (g.K.Sink.faults c.args.sink.now) (g.K.Sink.faults c.chunks.sink) c.chunks.allowed c.chunks.receiver c.chunks.listed
    c.chunks.invariant.reads c.chunks.invariant.source_counts
    c.chunks.invariant.partial (g.S.Source.faults c.next_bytes-2.new.source) (g.K.Sink.written c.finish-in-End-next_bytes.new.sink) (g.K.Sink.faults c.finish-in-End-next_bytes.new.sink)
    c.finish-in-End-next_bytes.ensures.ends.0 c.in-End-next_bytes.ensures.takes.0 c.in-End-next_bytes.ensures.takes.1 c.in-End-next_bytes.ensures.takes.2 c.finish-in-End-next_bytes.ensures.ends.2)

pub returns-clause-listed : goal.returns-clause-listed
returns-clause-listed g c =
    ends_failed (g.S.Source.left c.args.source.now) (g.S.Source.left c.chunks.source) (g.S.Source.left c.next_bytes-2.new.source)
    (g.K.Sink.written c.args.sink.now) (g.K.Sink.written c.chunks.sink) (g.S.Source.faults c.args.source.now) (g.S.Source.faults c.chunks.source)
    (g.K.Sink.faults c.args.sink.now) (g.K.Sink.faults c.chunks.sink) c.chunks.allowed c.chunks.receiver c.chunks.listed
    c.chunks.invariant.reads c.chunks.invariant.source_counts
    c.chunks.invariant.partial [] c.in-Fault-next_bytes.ensures.takes.0 (omega arith) (g.S.Source.faults c.next_bytes-2.new.source)
    (g.K.Sink.written c.finish-in-Fault-next_bytes.new.sink) (g.K.Sink.faults c.finish-in-Fault-next_bytes.new.sink) c.finish-in-Fault-next_bytes.ensures.ends.0 c.finish-in-Fault-next_bytes.ensures.ends.2
    c.finish-in-Fault-next_bytes.result c.finish-in-Fault-next_bytes.ensures.ends.1 refl c.in-Fault-next_bytes.ensures.takes.1
