use Rattle.std.proofs.Common.{ℕ, ◌-◌, List, [], length, take, refl, sym, ◌∙◌, subst, arith}
use Rattle.std.proofs.lemmas.List.{length-take-le}
use Rattle.std.specs.Io.KnownBytes.{Consumes}
use Rattle.record_check.proofs.Reading.{Reading, read_ended, read_stopped, reading_more, reading_start, undecided}
use Rattle.record_check.proofs.stream.read_record.Goals as goal

pub chunks-init : goal.chunks-init
chunks-init g c = record {
  going = c.requires.going;
  few = omega (arith, c.requires.none);
  size = refl;
  counts = refl;
  reads = reading_start (g.S.Source.left c.args.source.now) c.args.checker;
}

pub chunks-preserved : goal.chunks-preserved
chunks-preserved g c = record {
  going = c.in-None.ensures.going refl;
  few = omega (arith, c.in-None.ensures.few, c.chunks.invariant.few, c.split_at.ensures.front_len, c.in-Bytes.ensures.takes.1, c.min.ensures);
  size = c.next_bytes.array_long;
  counts = c.in-Bytes.ensures.takes.3 ∙ c.chunks.invariant.counts;
  reads =
      subst (λ (n : ℕ). Reading (g.S.Source.left c.args.source.now) (g.S.Source.left c.next_bytes.new.source) (c.chunks.allowed - n)
      c.args.checker c.take_chunk.new.self) c.split_at.ensures.front_len
      (reading_more (g.S.Source.left c.args.source.now) (g.S.Source.left c.chunks.source) c.chunks.allowed c.args.checker c.chunks.checker
      c.chunks.invariant.reads (g.S.Source.left c.next_bytes.new.source) c.split_at.result.0.now
      (subst (λ (l : List ℕ). Consumes (g.S.Source.left c.chunks.source) (g.S.Source.left c.next_bytes.new.source) l)
      (sym c.split_at.ensures.front) c.in-Bytes.ensures.takes.2)
      c.in-None.ensures.bytes (omega (arith, c.split_at.ensures.front_len, c.in-Bytes.ensures.takes.1, c.min.ensures)) c.take_chunk.new.self
      c.in-None.ensures.takes);
}

pub returns-in-Some-clause-found : goal.returns-in-Some-clause-found
returns-in-Some-clause-found g c = λ part prog h. (
  read_stopped (g.S.Source.left c.args.source.now) (g.S.Source.left c.chunks.source) c.chunks.allowed c.args.checker c.chunks.checker
      c.chunks.invariant.reads (g.S.Source.left c.next_bytes.new.source) c.split_at.result.0.now
      (subst (λ (l : List ℕ). Consumes (g.S.Source.left c.chunks.source) (g.S.Source.left c.next_bytes.new.source) l)
      (sym c.split_at.ensures.front) c.in-Bytes.ensures.takes.2)
      c.in-Some.ensures.bytes (omega (arith, c.split_at.ensures.front_len, c.in-Bytes.ensures.takes.1, c.min.ensures)) c.take_chunk.new.self
      c.in-Some.verdict c.fails.result part prog
      (omega (arith, c.split_at.ensures.front_len, c.in-Bytes.ensures.takes.1, c.min.ensures)) c.fails.ensures
      (λ taken t. c.in-Some.ensures.takes part prog taken t) h,
  c.in-Bytes.ensures.takes.3 ∙ c.chunks.invariant.counts,
)

pub returns-in-End-clause-found : goal.returns-in-End-clause-found
returns-in-End-clause-found g c = λ part prog h. (
  read_ended (g.S.Source.left c.args.source.now) (g.S.Source.left c.chunks.source) c.chunks.allowed c.args.checker c.chunks.checker
      c.chunks.invariant.reads (g.S.Source.left c.next_bytes.new.source) c.answer_at_end.result part prog c.in-End.ensures.takes.0
      c.in-End.ensures.takes.1 (λ taken t. c.answer_at_end.ensures.answers part prog taken t) h,
  c.in-End.ensures.takes.2 ∙ c.chunks.invariant.counts,
)

pub returns-in-Fault-clause-found : goal.returns-in-Fault-clause-found
returns-in-Fault-clause-found g c = λ part prog h. (
  undecided (g.S.Source.left c.args.source.now) (g.S.Source.left c.chunks.source) c.chunks.allowed c.args.checker c.chunks.checker
      c.chunks.invariant.reads (g.S.Source.left c.next_bytes.new.source) [] 0 part prog c.in-Fault.ensures.takes.0 refl (λ some. omega (arith, some)) h,
  omega (arith, c.in-Fault.ensures.takes.1, c.chunks.invariant.counts),
)

pub returns-in-Bytes-next_bytes-clause-found : goal.returns-in-Bytes-next_bytes-clause-found
returns-in-Bytes-next_bytes-clause-found g c = λ part prog h.
    let size = length-take-le c.in-Bytes-next_bytes.field-0 c.next_bytes-2.new.buffer
    (omega (arith, c.in-Bytes-next_bytes.ensures.takes.1, c.next_bytes-2.array_long)) in (
      undecided (g.S.Source.left c.args.source.now) (g.S.Source.left c.chunks.source) c.chunks.allowed c.args.checker c.chunks.checker
          c.chunks.invariant.reads (g.S.Source.left c.next_bytes-2.new.source) (take c.in-Bytes-next_bytes.field-0 c.next_bytes-2.new.buffer) 1
          part prog c.in-Bytes-next_bytes.ensures.takes.2
          (omega (arith, c.in-Bytes-next_bytes.ensures.takes.0, c.in-Bytes-next_bytes.ensures.takes.1, size))
          (λ some. omega (arith, c.chunks-test.false)) h,
      c.in-Bytes-next_bytes.ensures.takes.3 ∙ c.chunks.invariant.counts,
    )

pub returns-in-End-next_bytes-clause-found : goal.returns-in-End-next_bytes-clause-found
returns-in-End-next_bytes-clause-found g c = λ part prog h. (
  read_ended (g.S.Source.left c.args.source.now) (g.S.Source.left c.chunks.source) c.chunks.allowed c.args.checker c.chunks.checker
      c.chunks.invariant.reads (g.S.Source.left c.next_bytes-2.new.source) c.answer_at_end-in-End-next_bytes.result part prog
      c.in-End-next_bytes.ensures.takes.0 c.in-End-next_bytes.ensures.takes.1
      (λ taken t. c.answer_at_end-in-End-next_bytes.ensures.answers part prog taken t) h,
  c.in-End-next_bytes.ensures.takes.2 ∙ c.chunks.invariant.counts,
)

pub returns-clause-found : goal.returns-clause-found
returns-clause-found g c = λ part prog h. (
  undecided (g.S.Source.left c.args.source.now) (g.S.Source.left c.chunks.source) c.chunks.allowed c.args.checker c.chunks.checker
      c.chunks.invariant.reads (g.S.Source.left c.next_bytes-2.new.source) [] 0 part prog c.in-Fault-next_bytes.ensures.takes.0 refl
      (λ some. omega (arith, some)) h,
  omega (arith, c.in-Fault-next_bytes.ensures.takes.1, c.chunks.invariant.counts),
)
