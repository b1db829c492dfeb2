use Rattle.std.proofs.Common.{◌≤◌, ◌≡◌, ◌+◌, ◌-◌, ℕ, List, true, length, take}
use Rattle.line_spec.specs.Frames.{IsPartial}
use Rattle.debug_spec.specs.Device.{Asked}
use Rattle.debug_spec.specs.Debugger.{listens}
use Rattle.debug_spec.specs.TakeReplays.{IsReplayed}
use Rattle.flash_patch.specs.Asking.{seen}
use Rattle.run_control.specs.declared.job.Job.{Job}
use Rattle.ice_replay.specs.Keeping.{place, IsKept}
use Rattle.ice_line.specs.Lines.{WritesAll}
use Rattle.ice_replay.specs.Steps.{IsPlaced}
use Rattle.ice_replay.specs.Chunks.{TakesSome}
use Rattle.ice_replay.proofs.chunk.take_chunk.Given as goal

abbrev pub invariant-frames : goal.invariant-frames
invariant-frames g l = record {
  placed : IsPlaced (seen g.F.Flash.words g.F.Flash.journal g.F.Flash.faults g.F.Flash.writes) g.F.Flash.part l.emulator l.runner;
  listening : listens l.emulator.tool.mode ≡ true;
  within : l.used ≤ length l.chunk;
  some : l.used ≡ 0 → IsPartial l.emulator.receiver.held;
  counts : l.runner.launches + length l.emulator.receiver.held ≤ l.fn.runner.launches + length l.fn.emulator.receiver.held + l.used;
  part : l.emulator.tool.plan.part ≡ l.fn.emulator.tool.plan.part;
  stops : l.runner.stops.items ≡ l.fn.runner.stops.items;
  faults : g.K.Sink.faults l.fn.sink ≤ g.K.Sink.faults l.sink;
  takes : (job : Job g.row.F.Denot) (pend : List Asked) → IsKept (seen g.F.Flash.words g.F.Flash.journal g.F.Flash.faults g.F.Flash.writes) g.F.Flash.part (place l.fn.emulator l.fn.runner job pend) →
      (out : List ℕ) × TakesSome (seen g.F.Flash.words g.F.Flash.journal g.F.Flash.faults g.F.Flash.writes) g.F.Flash.part (IsReplayed true)
      (place l.fn.emulator l.fn.runner job pend) (take l.used l.chunk) out l.emulator l.runner ×
      WritesAll (g.K.Sink.written l.fn.sink) (g.K.Sink.written l.sink) (g.K.Sink.faults l.fn.sink) (g.K.Sink.faults l.sink) out;
}

abbrev pub decreases-frames : goal.decreases-frames
decreases-frames g l = length l.emulator.receiver.held + (length l.chunk - l.used)
