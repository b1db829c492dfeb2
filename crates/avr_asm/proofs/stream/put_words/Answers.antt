use Rattle.std.proofs.Common.{ℕ, List, ◌++◌, true, ◌∙◌, subst}
use Rattle.ice_line.specs.Lines.{WritesAll, WritesFront}
use Rattle.ice_line.proofs.Pieces.{writes_more}
use Rattle.asm_spec.specs.Words.{bytes_of}
use Rattle.avr_asm.proofs.Pieces.{joined_more, put_in_part}
use Rattle.avr_asm.proofs.Streaming.{bytes_cut}
use Rattle.avr_asm.proofs.stream.put_words.Goals as goal

pub returns-then-not-write_some-clause-writes : goal.returns-then-not-write_some-clause-writes
returns-then-not-write_some-clause-writes g c =
    let gone = c.pieces.invariant.gone in
    put_in_part (g.K.Sink.written c.args.sink.now) (g.K.Sink.written c.pieces.sink) (g.K.Sink.written c.write_some.new.sink)
    (g.K.Sink.faults c.args.sink.now) (g.K.Sink.faults c.pieces.sink) (g.K.Sink.faults c.write_some.new.sink)
    (bytes_of c.args.words.now) gone.0 (bytes_of c.pieces.rest.now) (bytes_of c.split_at.result.0.now) (bytes_of c.split_at.result.1.now)
    gone.1
    (subst (λ (bytes : List ℕ). WritesFront (g.K.Sink.written c.pieces.sink) (g.K.Sink.written c.write_some.new.sink)
    (g.K.Sink.faults c.pieces.sink) (g.K.Sink.faults c.write_some.new.sink) bytes) (c.as_slice.ensures.value ∙ c.bytes_of-bytes.ensures)
    c.if-not-write_some.ensures.writes)
    gone.2 (bytes_cut c.pieces.rest.now c.split_at.result.0.now c.split_at.result.1.now c.min.result c.split_at.ensures.front c.split_at.ensures.back)

pub pieces-preserved : goal.pieces-preserved
pieces-preserved g c =
    let gone = c.pieces.invariant.gone in
    let piece : List ℕ = bytes_of c.split_at.result.0.now in
    record {
      gone = (
        gone.0 ++ piece,
        writes_more true (g.K.Sink.written c.args.sink.now) (g.K.Sink.written c.pieces.sink) (g.K.Sink.written c.write_some.new.sink)
            (g.K.Sink.faults c.args.sink.now) (g.K.Sink.faults c.pieces.sink) (g.K.Sink.faults c.write_some.new.sink) gone.0 piece
            gone.1
            (subst (λ (bytes : List ℕ). WritesAll (g.K.Sink.written c.pieces.sink) (g.K.Sink.written c.write_some.new.sink)
            (g.K.Sink.faults c.pieces.sink) (g.K.Sink.faults c.write_some.new.sink) bytes) (c.as_slice.ensures.value ∙ c.bytes_of-bytes.ensures)
            c.if-not-write_some.ensures.writes),
        joined_more (bytes_of c.args.words.now) gone.0 (bytes_of c.pieces.rest.now) piece (bytes_of c.split_at.result.1.now) gone.2
            (bytes_cut c.pieces.rest.now c.split_at.result.0.now c.split_at.result.1.now c.min.result c.split_at.ensures.front c.split_at.ensures.back),
      );
    }
