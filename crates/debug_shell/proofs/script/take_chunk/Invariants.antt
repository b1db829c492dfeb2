use Rattle.std.proofs.Common.{◌≤◌, None, take}
use Rattle.host_session.specs.Words.{words_of}
use Rattle.debug_shell.specs.Steps.{TakesOn, printer}
use Rattle.debug_shell.proofs.script.take_chunk.Given as goal

abbrev pub invariant-bytes : goal.invariant-bytes
invariant-bytes g l = record {
  takes : TakesOn (words_of g.L.Link.sent g.L.Link.incoming g.L.Link.faults g.L.Link.sends g.L.Link.receives) (take l.byte-index l.chunk)
      (printer l.fn.host (g.K.Sink.written l.fn.sink) (g.K.Sink.faults l.fn.sink)) (printer l.host (g.K.Sink.written l.sink) (g.K.Sink.faults l.sink))
      l.fn.held.items l.held.items None;
  counts : g.K.Sink.faults l.fn.sink ≤ g.K.Sink.faults l.sink;
}
