use Rattle.std.proofs.Common.{◌≤◌, ◌≡◌, ◌+◌, List, true, length}
use Rattle.line_spec.specs.Frames.{IsPartial}
use Rattle.debug_spec.specs.Device.{Asked}
use Rattle.debug_spec.specs.Debugger.{listens}
use Rattle.flash_patch.specs.Asking.{seen}
use Rattle.run_control.specs.declared.job.Job.{Job}
use Rattle.ice_replay.specs.Keeping.{place, IsKept}
use Rattle.ice_replay.specs.Steps.{IsPlaced}
use Rattle.ice_line.specs.Reads.{input_limit}
use Rattle.ice_replay.proofs.Takings.{Reading}
use Rattle.ice_replay.proofs.session.run.Given as goal

abbrev pub invariant-chunks : goal.invariant-chunks
invariant-chunks g l = record {
  placed : IsPlaced (seen g.F.Flash.words g.F.Flash.journal g.F.Flash.faults g.F.Flash.writes) g.F.Flash.part l.emulator l.runner;
  listening : listens l.emulator.tool.mode ≡ true;
  partial : IsPartial l.emulator.receiver.held;
  size : length l.buffer ≡ 512;
  counts : l.runner.launches + length l.emulator.receiver.held + l.allowed ≤ input_limit;
  part : l.emulator.tool.plan.part ≡ l.fn.emulator.tool.plan.part;
  stops : l.runner.stops.items ≡ l.fn.runner.stops.items;
  source_counts : g.S.Source.faults l.source ≡ g.S.Source.faults l.fn.source;
  sink_counts : g.K.Sink.faults l.sink ≡ g.K.Sink.faults l.fn.sink;
  reads : (job : Job g.row.F.Denot) (pend : List Asked) → IsKept (seen g.F.Flash.words g.F.Flash.journal g.F.Flash.faults g.F.Flash.writes) g.F.Flash.part (place l.fn.emulator l.fn.runner job pend) →
      Reading (seen g.F.Flash.words g.F.Flash.journal g.F.Flash.faults g.F.Flash.writes) g.F.Flash.part (place l.fn.emulator l.fn.runner job pend)
      (g.S.Source.left l.fn.source) (g.S.Source.left l.source) (g.K.Sink.written l.fn.sink) (g.K.Sink.written l.sink) l.allowed l.emulator l.runner;
}

abbrev pub decreases-chunks : goal.decreases-chunks
decreases-chunks g l = l.allowed
