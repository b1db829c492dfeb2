use Rattle.std.proofs.Common.{List, sym, subst, arith}
use Rattle.host_session.specs.Words.{words_of}
use Rattle.debug_shell.specs.Endings.{input_limit, scene}
use Rattle.debug_shell.proofs.Scripting.{Going, Going-start, Going-more, Going-ends, Going-fault, Going-long, Going-last}
use Rattle.debug_shell.proofs.script.run_script.Goals as goal

pub chunks-init : goal.chunks-init
chunks-init g c = record {
  going = let P : List _ → Type 0 = λ held. Going (words_of g.L.Link.sent g.L.Link.incoming g.L.Link.faults g.L.Link.sends g.L.Link.receives)
      (scene c.args.host.now (g.S.Source.left c.args.source.now) (g.S.Source.faults c.args.source.now) (g.K.Sink.written c.args.sink.now) (g.K.Sink.faults c.args.sink.now))
      (scene c.args.host.now (g.S.Source.left c.args.source.now) (g.S.Source.faults c.args.source.now) (g.K.Sink.written c.args.sink.now) (g.K.Sink.faults c.args.sink.now)) held input_limit in
      subst P (sym c.new-held.ensures) (Going-start (words_of g.L.Link.sent g.L.Link.incoming g.L.Link.faults g.L.Link.sends g.L.Link.receives) (scene c.args.host.now (g.S.Source.left c.args.source.now) (g.S.Source.faults c.args.source.now) (g.K.Sink.written c.args.sink.now) (g.K.Sink.faults c.args.sink.now)));
  size = omega arith;
  source_counts = omega arith;
  sink_counts = omega arith;
}

pub chunks-preserved : goal.chunks-preserved
chunks-preserved g c =
    let takes = c.in-Bytes.ensures.takes in
    record {
      going = Going-more (words_of g.L.Link.sent g.L.Link.incoming g.L.Link.faults g.L.Link.sends g.L.Link.receives)
          (scene c.args.host.now (g.S.Source.left c.args.source.now) (g.S.Source.faults c.args.source.now) (g.K.Sink.written c.args.sink.now) (g.K.Sink.faults c.args.sink.now))
          (scene c.chunks.host (g.S.Source.left c.chunks.source) (g.S.Source.faults c.chunks.source) (g.K.Sink.written c.chunks.sink) (g.K.Sink.faults c.chunks.sink))
          (scene c.take_chunk.new.host (g.S.Source.left c.next_bytes.new.source) (g.S.Source.faults c.next_bytes.new.source) (g.K.Sink.written c.take_chunk.new.sink) (g.K.Sink.faults c.take_chunk.new.sink))
          c.chunks.held.items c.take_chunk.new.held.items c.chunks.allowed c.in-Bytes.count c.split_at.result.0.now c.chunks.invariant.going
          (rw c.split_at.ensures.front takes.2) c.split_at.ensures.front_len (omega (arith, takes.1, c.min.ensures)) takes.3 c.in-None.ensures.takes;
      size = c.next_bytes.array_long;
      source_counts = omega (arith, c.chunks.invariant.source_counts, c.next_bytes.ensures.counts);
      sink_counts = omega (arith, c.chunks.invariant.sink_counts, c.take_chunk.ensures.counts);
    }

pub returns-in-End-clause-ends : goal.returns-in-End-clause-ends
returns-in-End-clause-ends g c =
    let takes = c.in-End.ensures.takes in
    Going-last (words_of g.L.Link.sent g.L.Link.incoming g.L.Link.faults g.L.Link.sends g.L.Link.receives)
    (scene c.args.host.now (g.S.Source.left c.args.source.now) (g.S.Source.faults c.args.source.now) (g.K.Sink.written c.args.sink.now) (g.K.Sink.faults c.args.sink.now))
    (scene c.chunks.host (g.S.Source.left c.chunks.source) (g.S.Source.faults c.chunks.source) (g.K.Sink.written c.chunks.sink) (g.K.Sink.faults c.chunks.sink))
    (scene c.run_last.new.host (g.S.Source.left c.next_bytes.new.source) (g.S.Source.faults c.next_bytes.new.source) (g.K.Sink.written c.run_last.new.sink) (g.K.Sink.faults c.run_last.new.sink))
    c.chunks.held.items c.chunks.allowed c.run_last.result c.chunks.invariant.going takes.0 takes.1 takes.2 c.run_last.ensures.last

pub returns-in-Fault-clause-ends : goal.returns-in-Fault-clause-ends
returns-in-Fault-clause-ends g c =
    let takes = c.in-Fault.ensures.takes in
    Going-fault (words_of g.L.Link.sent g.L.Link.incoming g.L.Link.faults g.L.Link.sends g.L.Link.receives)
    (scene c.args.host.now (g.S.Source.left c.args.source.now) (g.S.Source.faults c.args.source.now) (g.K.Sink.written c.args.sink.now) (g.K.Sink.faults c.args.sink.now))
    (scene c.chunks.host (g.S.Source.left c.chunks.source) (g.S.Source.faults c.chunks.source) (g.K.Sink.written c.chunks.sink) (g.K.Sink.faults c.chunks.sink))
    (record { bytes = g.S.Source.left c.next_bytes.new.source; faults = g.S.Source.faults c.next_bytes.new.source })
    c.chunks.held.items c.chunks.allowed c.chunks.invariant.going takes.0 takes.1

pub returns-in-Some-clause-ends : goal.returns-in-Some-clause-ends
returns-in-Some-clause-ends g c =
    let takes = c.in-Bytes.ensures.takes in
    Going-ends (words_of g.L.Link.sent g.L.Link.incoming g.L.Link.faults g.L.Link.sends g.L.Link.receives)
    (scene c.args.host.now (g.S.Source.left c.args.source.now) (g.S.Source.faults c.args.source.now) (g.K.Sink.written c.args.sink.now) (g.K.Sink.faults c.args.sink.now))
    (scene c.chunks.host (g.S.Source.left c.chunks.source) (g.S.Source.faults c.chunks.source) (g.K.Sink.written c.chunks.sink) (g.K.Sink.faults c.chunks.sink))
    (scene c.take_chunk.new.host (g.S.Source.left c.next_bytes.new.source) (g.S.Source.faults c.next_bytes.new.source) (g.K.Sink.written c.take_chunk.new.sink) (g.K.Sink.faults c.take_chunk.new.sink))
    c.chunks.held.items c.take_chunk.new.held.items c.chunks.allowed c.split_at.result.0.now c.in-Some.end c.chunks.invariant.going
    (rw c.split_at.ensures.front takes.2) (omega (arith, takes.1, c.min.ensures, c.split_at.ensures.front_len))
    (omega (arith, takes.1, c.min.ensures, c.split_at.ensures.front_len)) takes.3 c.in-Some.ensures.takes

pub returns-in-Bytes-next_bytes-clause-ends : goal.returns-in-Bytes-next_bytes-clause-ends
returns-in-Bytes-next_bytes-clause-ends g c =
    let takes = c.in-Bytes-next_bytes.ensures.takes in
    Going-long (words_of g.L.Link.sent g.L.Link.incoming g.L.Link.faults g.L.Link.sends g.L.Link.receives)
    (scene c.args.host.now (g.S.Source.left c.args.source.now) (g.S.Source.faults c.args.source.now) (g.K.Sink.written c.args.sink.now) (g.K.Sink.faults c.args.sink.now))
    (scene c.chunks.host (g.S.Source.left c.chunks.source) (g.S.Source.faults c.chunks.source) (g.K.Sink.written c.chunks.sink) (g.K.Sink.faults c.chunks.sink))
    (record { bytes = g.S.Source.left c.next_bytes-2.new.source; faults = g.S.Source.faults c.next_bytes-2.new.source })
    c.chunks.held.items c.chunks.allowed c.next_bytes-2.new.buffer _ c.chunks.invariant.going (omega (arith, c.chunks-test.false))
    (omega (arith, c.next_bytes-2.array_long)) takes.0 takes.1 takes.2 takes.3

pub returns-in-End-next_bytes-clause-ends : goal.returns-in-End-next_bytes-clause-ends
returns-in-End-next_bytes-clause-ends g c =
    let takes = c.in-End-next_bytes.ensures.takes in
    Going-last (words_of g.L.Link.sent g.L.Link.incoming g.L.Link.faults g.L.Link.sends g.L.Link.receives)
    (scene c.args.host.now (g.S.Source.left c.args.source.now) (g.S.Source.faults c.args.source.now) (g.K.Sink.written c.args.sink.now) (g.K.Sink.faults c.args.sink.now))
    (scene c.chunks.host (g.S.Source.left c.chunks.source) (g.S.Source.faults c.chunks.source) (g.K.Sink.written c.chunks.sink) (g.K.Sink.faults c.chunks.sink))
    (scene c.run_last-in-End-next_bytes.new.host (g.S.Source.left c.next_bytes-2.new.source) (g.S.Source.faults c.next_bytes-2.new.source) (g.K.Sink.written c.run_last-in-End-next_bytes.new.sink) (g.K.Sink.faults c.run_last-in-End-next_bytes.new.sink))
    c.chunks.held.items c.chunks.allowed c.run_last-in-End-next_bytes.result c.chunks.invariant.going takes.0 takes.1 takes.2
    c.run_last-in-End-next_bytes.ensures.last

pub returns-in-Fault-next_bytes-clause-ends : goal.returns-in-Fault-next_bytes-clause-ends
returns-in-Fault-next_bytes-clause-ends g c =
    let takes = c.in-Fault-next_bytes.ensures.takes in
    Going-fault (words_of g.L.Link.sent g.L.Link.incoming g.L.Link.faults g.L.Link.sends g.L.Link.receives)
    (scene c.args.host.now (g.S.Source.left c.args.source.now) (g.S.Source.faults c.args.source.now) (g.K.Sink.written c.args.sink.now) (g.K.Sink.faults c.args.sink.now))
    (scene c.chunks.host (g.S.Source.left c.chunks.source) (g.S.Source.faults c.chunks.source) (g.K.Sink.written c.chunks.sink) (g.K.Sink.faults c.chunks.sink))
    (record { bytes = g.S.Source.left c.next_bytes-2.new.source; faults = g.S.Source.faults c.next_bytes-2.new.source })
    c.chunks.held.items c.chunks.allowed c.chunks.invariant.going takes.0 takes.1
