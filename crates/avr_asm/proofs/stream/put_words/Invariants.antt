use Rattle.std.proofs.Common.{◌≡◌, ◌++◌, List, ℕ, length}
use Rattle.ice_line.specs.Lines.{WritesAll}
use Rattle.asm_spec.specs.Words.{bytes_of}
use Rattle.avr_asm.proofs.stream.put_words.Given as goal

abbrev pub invariant-pieces : goal.invariant-pieces
invariant-pieces g l = record {
  gone : (told : List ℕ) ×
      WritesAll (g.K.Sink.written l.fn.sink) (g.K.Sink.written l.sink) (g.K.Sink.faults l.fn.sink) (g.K.Sink.faults l.sink) told ×
      (bytes_of l.words ≡ told ++ bytes_of l.rest);
}

abbrev pub decreases-pieces : goal.decreases-pieces
decreases-pieces g l = length l.rest
