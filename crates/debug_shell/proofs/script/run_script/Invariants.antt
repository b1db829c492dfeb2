use Rattle.std.proofs.Common.{◌≤◌, ◌≡◌, length}
use Rattle.host_session.specs.Words.{words_of}
use Rattle.debug_shell.specs.Endings.{scene}
use Rattle.debug_shell.proofs.Scripting.{Going}
use Rattle.debug_shell.proofs.script.run_script.Given as goal

abbrev pub invariant-chunks : goal.invariant-chunks
invariant-chunks g l = record {
  going : Going (words_of g.L.Link.sent g.L.Link.incoming g.L.Link.faults g.L.Link.sends g.L.Link.receives)
      (scene l.fn.host (g.S.Source.left l.fn.source) (g.S.Source.faults l.fn.source) (g.K.Sink.written l.fn.sink) (g.K.Sink.faults l.fn.sink))
      (scene l.host (g.S.Source.left l.source) (g.S.Source.faults l.source) (g.K.Sink.written l.sink) (g.K.Sink.faults l.sink))
      l.held.items l.allowed;
  size : length l.buffer ≡ 512;
  source_counts : g.S.Source.faults l.fn.source ≤ g.S.Source.faults l.source;
  sink_counts : g.K.Sink.faults l.fn.sink ≤ g.K.Sink.faults l.sink;
}

abbrev pub decreases-chunks : goal.decreases-chunks
decreases-chunks g l = l.allowed
