use Rattle.std.proofs.Common.{ℕ, List, [], ◌++◌, true, drop, refl, subst, arith}
use Rattle.std.proofs.KnownBytes.{Appends-nil}
use Rattle.part_spec.specs.Chip.{chip_of}
use Rattle.ice_line.specs.Lines.{WritesAll, WritesFront}
use Rattle.ice_line.proofs.Pieces.{writes_more}
use Rattle.asm_spec.specs.Listing.{lines_from}
use Rattle.avr_asm.proofs.Pieces.{all_put, joined_more, none_left, put_in_part}
use Rattle.avr_asm.proofs.program.list_program.Goals as goal

pub pieces-init : goal.pieces-init
pieces-init g c = record {
  within = omega arith;
  gone = ([], (Appends-nil (g.K.Sink.written c.args.sink.now), refl), refl);
}

pub pieces-preserved : goal.pieces-preserved
pieces-preserved g c =
    let program : List ℕ = c.args.program.now in
    let lines : ℕ → List ℕ = λ place. lines_from (chip_of c.args.part) 0 (drop place program) in
    let told : List ℕ = c.pieces.invariant.gone.0 in
    let piece : List ℕ = c.gather-place.new.lines.items in
    record {
      within = c.gather-place.ensures.within;
      gone = (
        told ++ piece,
        writes_more true (g.K.Sink.written c.args.sink.now) (g.K.Sink.written c.pieces.sink) (g.K.Sink.written c.write_some.new.sink)
            (g.K.Sink.faults c.args.sink.now) (g.K.Sink.faults c.pieces.sink) (g.K.Sink.faults c.write_some.new.sink) told piece
            c.pieces.invariant.gone.1
            (subst (λ (bytes : List ℕ). WritesAll (g.K.Sink.written c.pieces.sink) (g.K.Sink.written c.write_some.new.sink)
            (g.K.Sink.faults c.pieces.sink) (g.K.Sink.faults c.write_some.new.sink) bytes) c.as_slice.ensures.value c.if-not-write_some.ensures.writes),
        joined_more (lines 0) told (lines c.pieces.place) piece (lines c.gather-place.result) c.pieces.invariant.gone.2 c.gather-place.ensures.lines,
      );
    }

pub returns-then-not-write_some-clause-writes : goal.returns-then-not-write_some-clause-writes
returns-then-not-write_some-clause-writes g c =
    let program : List ℕ = c.args.program.now in
    let lines : ℕ → List ℕ = λ place. lines_from (chip_of c.args.part) 0 (drop place program) in
    put_in_part (g.K.Sink.written c.args.sink.now) (g.K.Sink.written c.pieces.sink) (g.K.Sink.written c.write_some.new.sink)
    (g.K.Sink.faults c.args.sink.now) (g.K.Sink.faults c.pieces.sink) (g.K.Sink.faults c.write_some.new.sink)
    (lines 0) c.pieces.invariant.gone.0 (lines c.pieces.place) c.gather-place.new.lines.items (lines c.gather-place.result)
    c.pieces.invariant.gone.1
    (subst (λ (bytes : List ℕ). WritesFront (g.K.Sink.written c.pieces.sink) (g.K.Sink.written c.write_some.new.sink)
    (g.K.Sink.faults c.pieces.sink) (g.K.Sink.faults c.write_some.new.sink) bytes) c.as_slice.ensures.value c.if-not-write_some.ensures.writes)
    c.pieces.invariant.gone.2 c.gather-place.ensures.lines

pub returns-clause-writes : goal.returns-clause-writes
returns-clause-writes g c =
    let program : List ℕ = c.args.program.now in
    let lines : ℕ → List ℕ = λ place. lines_from (chip_of c.args.part) 0 (drop place program) in
    all_put (g.K.Sink.written c.args.sink.now) (g.K.Sink.written c.pieces.sink) (g.K.Sink.faults c.args.sink.now)
    (g.K.Sink.faults c.pieces.sink) (lines 0) c.pieces.invariant.gone.0 (lines c.pieces.place) c.pieces.invariant.gone.1
    c.pieces.invariant.gone.2
    (none_left (chip_of c.args.part) program c.pieces.place c.used_words-used.result c.used_words-used.ensures.erased (omega arith))
