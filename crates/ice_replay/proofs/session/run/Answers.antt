use Rattle.std.proofs.Common.{Bool, Result, ◌-◌, ℕ, List, [], length, take, refl, sym, ap, ◌∙◌, subst, arith}
use Rattle.std.proofs.lemmas.List.{length-take-le}
use Rattle.std.specs.Prelude.{⊤}
use Rattle.std.specs.Io.KnownBytes.{Consumes}
use Rattle.line_spec.specs.Frames.{IsPartial}
use Rattle.line_spec.proofs.Cuts.{IsPartial-nil}
use Rattle.flash_patch.specs.Asking.{seen}
use Rattle.flash_patch.specs.declared.plan.FlashFault.{FlashFault}
use Rattle.ice_replay.specs.Keeping.{place}
use Rattle.ice_replay.specs.Chunks.{ChunkEnds}
use Rattle.ice_replay.specs.declared.chunk.Chunk.TheVariants.{Closed, Unsent}
use Rattle.ice_replay.proofs.Takings.{Reading, reading_start, taken_more, okay_line, failed_line, long_line, closed_okay, closed_fault, cut_closed, cut_open}
use Rattle.ice_replay.proofs.session.run.Goals as goal

pub chunks-init : goal.chunks-init
chunks-init g c =
    let partial : IsPartial c.args.emulator.now.receiver.held = subst IsPartial (sym c.requires.fresh.0) IsPartial-nil in
    record {
      placed = c.requires.placed;
      listening = c.requires.listens;
      partial = partial;
      size = refl;
      counts = omega (arith, ap length c.requires.fresh.0, c.requires.fresh.1);
      part = refl;
      stops = refl;
      source_counts = refl;
      sink_counts = refl;
      reads = λ job pend kept. reading_start (seen g.F.Flash.words g.F.Flash.journal g.F.Flash.faults g.F.Flash.writes) g.F.Flash.part (place c.args.emulator.now c.args.runner.now job pend) (g.S.Source.left c.args.source.now) (g.K.Sink.written c.args.sink.now) kept c.requires.listens partial;
    }

pub chunks-preserved : goal.chunks-preserved
chunks-preserved g c = record {
  placed = c.take_chunk.ensures.placed;
  listening = let k = c.chunks.invariant.placed in (c.in-Taken.ensures.takes k.0 k.1 k.2).3;
  partial = let k = c.chunks.invariant.placed in (c.in-Taken.ensures.takes k.0 k.1 k.2).4;
  size = c.next_bytes.array_long;
  counts = omega (
    arith,
    c.take_chunk.ensures.counts,
    c.chunks.invariant.counts,
    c.split_at.ensures.front_len,
    c.in-Bytes.ensures.takes.1,
    c.min.ensures,
  );
  part = c.take_chunk.ensures.part ∙ c.chunks.invariant.part;
  stops = c.take_chunk.ensures.stops ∙ c.chunks.invariant.stops;
  source_counts = c.in-Bytes.ensures.takes.3 ∙ c.chunks.invariant.source_counts;
  sink_counts = let k = c.chunks.invariant.placed in (c.in-Taken.ensures.takes k.0 k.1 k.2).2.1 ∙ c.chunks.invariant.sink_counts;
  reads = λ job pend kept.
      subst (λ (n : ℕ). Reading (seen g.F.Flash.words g.F.Flash.journal g.F.Flash.faults g.F.Flash.writes) g.F.Flash.part (place c.args.emulator.now c.args.runner.now job pend) (g.S.Source.left c.args.source.now) (g.S.Source.left c.next_bytes.new.source) (g.K.Sink.written c.args.sink.now)
      (g.K.Sink.written c.take_chunk.new.sink) (c.chunks.allowed - n) c.take_chunk.new.emulator c.take_chunk.new.runner)
      c.split_at.ensures.front_len
      (taken_more (seen g.F.Flash.words g.F.Flash.journal g.F.Flash.faults g.F.Flash.writes) g.F.Flash.part (place c.args.emulator.now c.args.runner.now job pend) (g.S.Source.left c.args.source.now) (g.S.Source.left c.chunks.source)
      (g.S.Source.left c.next_bytes.new.source) (g.K.Sink.written c.args.sink.now) (g.K.Sink.written c.chunks.sink) c.chunks.allowed c.chunks.emulator c.chunks.runner
      (c.chunks.invariant.reads job pend kept) c.chunks.invariant.part c.chunks.invariant.stops (g.S.Source.faults c.args.source.now) (g.S.Source.faults c.chunks.source) (g.K.Sink.faults c.args.sink.now) (g.K.Sink.faults c.chunks.sink)
      c.chunks.invariant.source_counts c.chunks.invariant.sink_counts
      c.split_at.result.0.now (subst (λ (l : List ℕ). Consumes (g.S.Source.left c.chunks.source) (g.S.Source.left c.next_bytes.new.source) l) (sym c.split_at.ensures.front)
      c.in-Bytes.ensures.takes.2) c.take_chunk.ensures.bytes
      (omega (arith, c.split_at.ensures.front_len, c.in-Bytes.ensures.takes.1, c.min.ensures))
      (omega (arith, c.split_at.ensures.front_len, c.in-Bytes.ensures.takes.1, c.min.ensures))
      (g.S.Source.faults c.next_bytes.new.source) (g.K.Sink.faults c.take_chunk.new.sink) c.in-Bytes.ensures.takes.3 (g.K.Sink.written c.take_chunk.new.sink)
      c.take_chunk.new.emulator c.take_chunk.new.runner
      (c.take_chunk.ensures.part ∙ c.chunks.invariant.part) (c.take_chunk.ensures.stops ∙ c.chunks.invariant.stops)
      (let reading = c.chunks.invariant.reads job pend kept in
      c.in-Taken.ensures.takes reading.takes.job reading.takes.pend reading.takes.kept));
}

pub returns-in-End-clause-ends : goal.returns-in-End-clause-ends
returns-in-End-clause-ends g c = λ job pend kept.
    okay_line (seen g.F.Flash.words g.F.Flash.journal g.F.Flash.faults g.F.Flash.writes) g.F.Flash.part (place c.args.emulator.now c.args.runner.now job pend) (g.S.Source.left c.args.source.now) (g.S.Source.left c.chunks.source)
    (g.S.Source.left c.next_bytes.new.source) (g.K.Sink.written c.args.sink.now) (g.K.Sink.written c.chunks.sink) c.chunks.allowed c.chunks.emulator c.chunks.runner
    (c.chunks.invariant.reads job pend kept) c.chunks.invariant.part c.chunks.invariant.stops (g.S.Source.faults c.args.source.now) (g.S.Source.faults c.chunks.source) (g.K.Sink.faults c.args.sink.now) (g.K.Sink.faults c.chunks.sink)
    c.chunks.invariant.source_counts c.chunks.invariant.sink_counts
    [] c.in-End.ensures.takes.0 (omega arith) (g.S.Source.faults c.next_bytes.new.source) c.finish_line.new.emulator c.finish_line.new.runner c.finish_line.ensures.line c.finish_line.result c.finish_line.ensures.ends
    refl c.in-End.ensures.takes.1 c.in-End.ensures.takes.2

pub returns-in-Fault-clause-ends : goal.returns-in-Fault-clause-ends
returns-in-Fault-clause-ends g c = λ job pend kept.
    failed_line (seen g.F.Flash.words g.F.Flash.journal g.F.Flash.faults g.F.Flash.writes) g.F.Flash.part (place c.args.emulator.now c.args.runner.now job pend) (g.S.Source.left c.args.source.now) (g.S.Source.left c.chunks.source)
    (g.S.Source.left c.next_bytes.new.source) (g.K.Sink.written c.args.sink.now) (g.K.Sink.written c.chunks.sink) c.chunks.allowed c.chunks.emulator c.chunks.runner
    (c.chunks.invariant.reads job pend kept) c.chunks.invariant.part c.chunks.invariant.stops (g.S.Source.faults c.args.source.now) (g.S.Source.faults c.chunks.source) (g.K.Sink.faults c.args.sink.now) (g.K.Sink.faults c.chunks.sink)
    c.chunks.invariant.source_counts c.chunks.invariant.sink_counts
    [] c.in-Fault.ensures.takes.0 (omega arith) (g.S.Source.faults c.next_bytes.new.source) c.finish_line-in-Fault.new.emulator c.finish_line-in-Fault.new.runner c.finish_line-in-Fault.ensures.line c.finish_line-in-Fault.result c.finish_line-in-Fault.ensures.ends
    refl c.in-Fault.ensures.takes.1

pub returns-in-Closed-Ok-clause-ends : goal.returns-in-Closed-Ok-clause-ends
returns-in-Closed-Ok-clause-ends g c = λ job pend kept.
    closed_okay (seen g.F.Flash.words g.F.Flash.journal g.F.Flash.faults g.F.Flash.writes) g.F.Flash.part (place c.args.emulator.now c.args.runner.now job pend) (g.S.Source.left c.args.source.now) (g.S.Source.left c.chunks.source)
    (g.S.Source.left c.next_bytes.new.source) (g.K.Sink.written c.args.sink.now) (g.K.Sink.written c.chunks.sink) c.chunks.allowed c.chunks.emulator c.chunks.runner
    (c.chunks.invariant.reads job pend kept) c.chunks.invariant.part c.chunks.invariant.stops (g.S.Source.faults c.args.source.now) (g.S.Source.faults c.chunks.source) (g.K.Sink.faults c.args.sink.now) (g.K.Sink.faults c.chunks.sink)
    c.chunks.invariant.source_counts c.chunks.invariant.sink_counts
    c.split_at.result.0.now (subst (λ (l : List ℕ). Consumes (g.S.Source.left c.chunks.source) (g.S.Source.left c.next_bytes.new.source) l) (sym c.split_at.ensures.front)
    c.in-Bytes.ensures.takes.2) c.take_chunk.ensures.bytes
    (omega (arith, c.split_at.ensures.front_len, c.in-Bytes.ensures.takes.1, c.min.ensures))
    (omega (arith, c.split_at.ensures.front_len, c.in-Bytes.ensures.takes.1, c.min.ensures))
    (g.S.Source.faults c.next_bytes.new.source) (g.K.Sink.faults c.take_chunk.new.sink) c.in-Bytes.ensures.takes.3 (g.K.Sink.written c.take_chunk.new.sink)
    c.take_chunk.new.emulator c.take_chunk.new.runner
    (c.take_chunk.ensures.part ∙ c.chunks.invariant.part) (c.take_chunk.ensures.stops ∙ c.chunks.invariant.stops)
    (let reading = c.chunks.invariant.reads job pend kept in
    subst (λ (x : Result ⊤ FlashFault). ChunkEnds (seen g.F.Flash.words g.F.Flash.journal g.F.Flash.faults g.F.Flash.writes) g.F.Flash.part (Closed x)
    (place c.chunks.emulator c.chunks.runner reading.takes.job reading.takes.pend) c.split_at.result.0.now
    (g.K.Sink.written c.chunks.sink) (g.K.Sink.written c.take_chunk.new.sink) (g.K.Sink.faults c.chunks.sink)
    (g.K.Sink.faults c.take_chunk.new.sink) c.take_chunk.new.emulator c.take_chunk.new.runner) c.in-Closed-Ok.field-0-is
    (c.in-Closed-Ok.ensures.takes reading.takes.job reading.takes.pend reading.takes.kept))

pub returns-in-Closed-Err-clause-ends : goal.returns-in-Closed-Err-clause-ends
returns-in-Closed-Err-clause-ends g c = λ job pend kept.
    closed_fault (seen g.F.Flash.words g.F.Flash.journal g.F.Flash.faults g.F.Flash.writes) g.F.Flash.part (place c.args.emulator.now c.args.runner.now job pend) (g.S.Source.left c.args.source.now) (g.S.Source.left c.chunks.source)
    (g.S.Source.left c.next_bytes.new.source) (g.K.Sink.written c.args.sink.now) (g.K.Sink.written c.chunks.sink) c.chunks.allowed c.chunks.emulator c.chunks.runner
    (c.chunks.invariant.reads job pend kept) c.chunks.invariant.part c.chunks.invariant.stops (g.S.Source.faults c.args.source.now) (g.S.Source.faults c.chunks.source) (g.K.Sink.faults c.args.sink.now) (g.K.Sink.faults c.chunks.sink)
    c.chunks.invariant.source_counts c.chunks.invariant.sink_counts
    c.split_at.result.0.now (subst (λ (l : List ℕ). Consumes (g.S.Source.left c.chunks.source) (g.S.Source.left c.next_bytes.new.source) l) (sym c.split_at.ensures.front)
    c.in-Bytes.ensures.takes.2) c.take_chunk.ensures.bytes
    (omega (arith, c.split_at.ensures.front_len, c.in-Bytes.ensures.takes.1, c.min.ensures))
    (omega (arith, c.split_at.ensures.front_len, c.in-Bytes.ensures.takes.1, c.min.ensures))
    (g.S.Source.faults c.next_bytes.new.source) (g.K.Sink.faults c.take_chunk.new.sink) c.in-Bytes.ensures.takes.3 (g.K.Sink.written c.take_chunk.new.sink)
    c.take_chunk.new.emulator c.take_chunk.new.runner
    c.in-Closed-Err.field-0-0 (c.take_chunk.ensures.part ∙ c.chunks.invariant.part) (c.take_chunk.ensures.stops ∙ c.chunks.invariant.stops)
    (let reading = c.chunks.invariant.reads job pend kept in
    subst (λ (x : Result ⊤ FlashFault). ChunkEnds (seen g.F.Flash.words g.F.Flash.journal g.F.Flash.faults g.F.Flash.writes) g.F.Flash.part (Closed x)
    (place c.chunks.emulator c.chunks.runner reading.takes.job reading.takes.pend) c.split_at.result.0.now
    (g.K.Sink.written c.chunks.sink) (g.K.Sink.written c.take_chunk.new.sink) (g.K.Sink.faults c.chunks.sink)
    (g.K.Sink.faults c.take_chunk.new.sink) c.take_chunk.new.emulator c.take_chunk.new.runner) c.in-Closed-Err.field-0-is
    (c.in-Closed-Err.ensures.takes reading.takes.job reading.takes.pend reading.takes.kept))

pub returns-in-Unsent-true-clause-ends : goal.returns-in-Unsent-true-clause-ends
returns-in-Unsent-true-clause-ends g c = λ job pend kept.
    cut_closed (seen g.F.Flash.words g.F.Flash.journal g.F.Flash.faults g.F.Flash.writes) g.F.Flash.part (place c.args.emulator.now c.args.runner.now job pend) (g.S.Source.left c.args.source.now) (g.S.Source.left c.chunks.source)
    (g.S.Source.left c.next_bytes.new.source) (g.K.Sink.written c.args.sink.now) (g.K.Sink.written c.chunks.sink) c.chunks.allowed c.chunks.emulator c.chunks.runner
    (c.chunks.invariant.reads job pend kept) c.chunks.invariant.part c.chunks.invariant.stops (g.S.Source.faults c.args.source.now) (g.S.Source.faults c.chunks.source) (g.K.Sink.faults c.args.sink.now) (g.K.Sink.faults c.chunks.sink)
    c.chunks.invariant.source_counts c.chunks.invariant.sink_counts
    c.split_at.result.0.now (subst (λ (l : List ℕ). Consumes (g.S.Source.left c.chunks.source) (g.S.Source.left c.next_bytes.new.source) l) (sym c.split_at.ensures.front)
    c.in-Bytes.ensures.takes.2) c.take_chunk.ensures.bytes
    (omega (arith, c.split_at.ensures.front_len, c.in-Bytes.ensures.takes.1, c.min.ensures))
    (omega (arith, c.split_at.ensures.front_len, c.in-Bytes.ensures.takes.1, c.min.ensures))
    (g.S.Source.faults c.next_bytes.new.source) (g.K.Sink.faults c.take_chunk.new.sink) c.in-Bytes.ensures.takes.3 (g.K.Sink.written c.take_chunk.new.sink)
    c.take_chunk.new.emulator c.take_chunk.new.runner
    (c.take_chunk.ensures.part ∙ c.chunks.invariant.part) (c.take_chunk.ensures.stops ∙ c.chunks.invariant.stops)
    (let reading = c.chunks.invariant.reads job pend kept in
    subst (λ (x : Bool). ChunkEnds (seen g.F.Flash.words g.F.Flash.journal g.F.Flash.faults g.F.Flash.writes) g.F.Flash.part (Unsent x)
    (place c.chunks.emulator c.chunks.runner reading.takes.job reading.takes.pend) c.split_at.result.0.now
    (g.K.Sink.written c.chunks.sink) (g.K.Sink.written c.take_chunk.new.sink) (g.K.Sink.faults c.chunks.sink)
    (g.K.Sink.faults c.take_chunk.new.sink) c.take_chunk.new.emulator c.take_chunk.new.runner) c.in-Unsent-true.field-0-test
    (c.in-Unsent-true.ensures.takes reading.takes.job reading.takes.pend reading.takes.kept))

pub returns-in-Unsent-false-clause-ends : goal.returns-in-Unsent-false-clause-ends
returns-in-Unsent-false-clause-ends g c = λ job pend kept.
    cut_open (seen g.F.Flash.words g.F.Flash.journal g.F.Flash.faults g.F.Flash.writes) g.F.Flash.part (place c.args.emulator.now c.args.runner.now job pend) (g.S.Source.left c.args.source.now) (g.S.Source.left c.chunks.source)
    (g.S.Source.left c.next_bytes.new.source) (g.K.Sink.written c.args.sink.now) (g.K.Sink.written c.chunks.sink) c.chunks.allowed c.chunks.emulator c.chunks.runner
    (c.chunks.invariant.reads job pend kept) c.chunks.invariant.part c.chunks.invariant.stops (g.S.Source.faults c.args.source.now) (g.S.Source.faults c.chunks.source) (g.K.Sink.faults c.args.sink.now) (g.K.Sink.faults c.chunks.sink)
    c.chunks.invariant.source_counts c.chunks.invariant.sink_counts
    c.split_at.result.0.now (subst (λ (l : List ℕ). Consumes (g.S.Source.left c.chunks.source) (g.S.Source.left c.next_bytes.new.source) l) (sym c.split_at.ensures.front)
    c.in-Bytes.ensures.takes.2) c.take_chunk.ensures.bytes
    (omega (arith, c.split_at.ensures.front_len, c.in-Bytes.ensures.takes.1, c.min.ensures))
    (omega (arith, c.split_at.ensures.front_len, c.in-Bytes.ensures.takes.1, c.min.ensures))
    (g.S.Source.faults c.next_bytes.new.source) (g.K.Sink.faults c.take_chunk.new.sink) c.in-Bytes.ensures.takes.3 (g.K.Sink.written c.take_chunk.new.sink)
    c.take_chunk.new.emulator c.take_chunk.new.runner
    c.finish_line-in-Unsent-false.result c.finish_line-in-Unsent-false.new.emulator c.finish_line-in-Unsent-false.new.runner
    c.finish_line-in-Unsent-false.ensures.ends (c.take_chunk.ensures.part ∙ c.chunks.invariant.part) (c.take_chunk.ensures.stops ∙ c.chunks.invariant.stops)
    c.finish_line-in-Unsent-false.ensures.line
    (let reading = c.chunks.invariant.reads job pend kept in
    subst (λ (x : Bool). ChunkEnds (seen g.F.Flash.words g.F.Flash.journal g.F.Flash.faults g.F.Flash.writes) g.F.Flash.part (Unsent x)
    (place c.chunks.emulator c.chunks.runner reading.takes.job reading.takes.pend) c.split_at.result.0.now
    (g.K.Sink.written c.chunks.sink) (g.K.Sink.written c.take_chunk.new.sink) (g.K.Sink.faults c.chunks.sink)
    (g.K.Sink.faults c.take_chunk.new.sink) c.take_chunk.new.emulator c.take_chunk.new.runner) c.in-Unsent-false.field-0-test
    (c.in-Unsent-false.ensures.takes reading.takes.job reading.takes.pend reading.takes.kept))

pub returns-in-Bytes-next_bytes-clause-ends : goal.returns-in-Bytes-next_bytes-clause-ends
returns-in-Bytes-next_bytes-clause-ends g c = λ job pend kept.
    long_line (seen g.F.Flash.words g.F.Flash.journal g.F.Flash.faults g.F.Flash.writes) g.F.Flash.part (place c.args.emulator.now c.args.runner.now job pend) (g.S.Source.left c.args.source.now) (g.S.Source.left c.chunks.source)
    (g.S.Source.left c.next_bytes-2.new.source) (g.K.Sink.written c.args.sink.now) (g.K.Sink.written c.chunks.sink) c.chunks.allowed c.chunks.emulator c.chunks.runner
    (c.chunks.invariant.reads job pend kept) c.chunks.invariant.part c.chunks.invariant.stops (g.S.Source.faults c.args.source.now) (g.S.Source.faults c.chunks.source) (g.K.Sink.faults c.args.sink.now) (g.K.Sink.faults c.chunks.sink)
    c.chunks.invariant.source_counts c.chunks.invariant.sink_counts
    (take c.in-Bytes-next_bytes.field-0 c.next_bytes-2.new.buffer) c.in-Bytes-next_bytes.ensures.takes.2
    (omega (
      arith,
      c.in-Bytes-next_bytes.ensures.takes.1,
      length-take-le c.in-Bytes-next_bytes.field-0 c.next_bytes-2.new.buffer (omega (arith, c.in-Bytes-next_bytes.ensures.takes.1, c.next_bytes-2.array_long)),
    )) (g.S.Source.faults c.next_bytes-2.new.source) c.finish_line-in-Bytes-next_bytes.new.emulator c.finish_line-in-Bytes-next_bytes.new.runner c.finish_line-in-Bytes-next_bytes.ensures.line c.finish_line-in-Bytes-next_bytes.result c.finish_line-in-Bytes-next_bytes.ensures.ends
    (omega (
      arith,
      c.in-Bytes-next_bytes.ensures.takes.0,
      c.in-Bytes-next_bytes.ensures.takes.1,
      length-take-le c.in-Bytes-next_bytes.field-0 c.next_bytes-2.new.buffer (omega (arith, c.in-Bytes-next_bytes.ensures.takes.1, c.next_bytes-2.array_long)),
    ))
    (omega (arith, c.chunks-test.false)) c.in-Bytes-next_bytes.ensures.takes.3

pub returns-in-End-next_bytes-clause-ends : goal.returns-in-End-next_bytes-clause-ends
returns-in-End-next_bytes-clause-ends g c = λ job pend kept.
    okay_line (seen g.F.Flash.words g.F.Flash.journal g.F.Flash.faults g.F.Flash.writes) g.F.Flash.part (place c.args.emulator.now c.args.runner.now job pend) (g.S.Source.left c.args.source.now) (g.S.Source.left c.chunks.source)
    (g.S.Source.left c.next_bytes-2.new.source) (g.K.Sink.written c.args.sink.now) (g.K.Sink.written c.chunks.sink) c.chunks.allowed c.chunks.emulator c.chunks.runner
    (c.chunks.invariant.reads job pend kept) c.chunks.invariant.part c.chunks.invariant.stops (g.S.Source.faults c.args.source.now) (g.S.Source.faults c.chunks.source) (g.K.Sink.faults c.args.sink.now) (g.K.Sink.faults c.chunks.sink)
    c.chunks.invariant.source_counts c.chunks.invariant.sink_counts
    [] c.in-End-next_bytes.ensures.takes.0 (omega arith) (g.S.Source.faults c.next_bytes-2.new.source) c.finish_line-in-End-next_bytes.new.emulator c.finish_line-in-End-next_bytes.new.runner c.finish_line-in-End-next_bytes.ensures.line c.finish_line-in-End-next_bytes.result c.finish_line-in-End-next_bytes.ensures.ends
    refl c.in-End-next_bytes.ensures.takes.1 c.in-End-next_bytes.ensures.takes.2

pub returns-in-Fault-next_bytes-clause-ends : goal.returns-in-Fault-next_bytes-clause-ends
returns-in-Fault-next_bytes-clause-ends g c = λ job pend kept.
    failed_line (seen g.F.Flash.words g.F.Flash.journal g.F.Flash.faults g.F.Flash.writes) g.F.Flash.part (place c.args.emulator.now c.args.runner.now job pend) (g.S.Source.left c.args.source.now) (g.S.Source.left c.chunks.source)
    (g.S.Source.left c.next_bytes-2.new.source) (g.K.Sink.written c.args.sink.now) (g.K.Sink.written c.chunks.sink) c.chunks.allowed c.chunks.emulator c.chunks.runner
    (c.chunks.invariant.reads job pend kept) c.chunks.invariant.part c.chunks.invariant.stops (g.S.Source.faults c.args.source.now) (g.S.Source.faults c.chunks.source) (g.K.Sink.faults c.args.sink.now) (g.K.Sink.faults c.chunks.sink)
    c.chunks.invariant.source_counts c.chunks.invariant.sink_counts
    [] c.in-Fault-next_bytes.ensures.takes.0 (omega arith) (g.S.Source.faults c.next_bytes-2.new.source) c.finish_line-in-Fault-next_bytes.new.emulator c.finish_line-in-Fault-next_bytes.new.runner c.finish_line-in-Fault-next_bytes.ensures.line c.finish_line-in-Fault-next_bytes.result c.finish_line-in-Fault-next_bytes.ensures.ends
    refl c.in-Fault-next_bytes.ensures.takes.1
