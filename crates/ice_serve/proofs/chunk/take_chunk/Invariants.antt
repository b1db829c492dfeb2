use Rattle.std.proofs.Common.{◌≤◌, ◌≡◌, ◌+◌, ◌-◌, ℕ, List, [], true, false, length, take}
use Rattle.part_spec.specs.Chip.{chip_of}
use Rattle.debug_spec.specs.Debugger.{listens}
use Rattle.flash_patch.specs.Asking.{seen}
use Rattle.run_control.specs.declared.job.Job.{Job}
use Rattle.ice_line.specs.Lines.{WritesAll}
use Rattle.ice_emul.specs.Taking.{takes_line}
use Rattle.ice_serve.specs.Keeping.{IsKept, IsPlaced, Continues, seen_as}
use Rattle.ice_serve.specs.Pieces.{TakesFront}
use Rattle.ice_serve.proofs.chunk.take_chunk.Given as goal

abbrev pub invariant-frames : goal.invariant-frames
invariant-frames g l = record {
  placed : IsPlaced (seen g.F.Flash.words g.F.Flash.journal g.F.Flash.faults g.F.Flash.writes) g.F.Flash.part l.emulator (seen_as (g.X.Runner.is_out l.runner) (g.X.Runner.raised l.runner) (g.X.Runner.may_give l.runner) (g.X.Runner.launches l.runner) (g.X.Runner.collects l.runner) (g.X.Runner.faults l.runner));
  sound : g.X.Runner.sound l.runner;
  kept : g.X.Runner.kept l.runner ≡ g.X.Runner.kept l.fn.runner;
  takes_line : takes_line l.emulator.tool.mode ≡ true;
  counted : l.launches ≡ g.X.Runner.launches l.runner;
  within : l.used ≤ length l.chunk;
  few : l.launches + length l.emulator.receiver.held ≤ l.fn.launches + length l.fn.emulator.receiver.held + l.used;
  part : l.emulator.tool.plan.part ≡ l.fn.emulator.tool.plan.part;
  deaf : listens l.fn.emulator.tool.mode ≡ false → (listens l.emulator.tool.mode ≡ false) ×
      (g.K.Sink.written l.sink ≡ g.K.Sink.written l.fn.sink) × (g.K.Sink.faults l.sink ≡ g.K.Sink.faults l.fn.sink);
  takes : (job : Job g.row.F.Denot) → IsKept (seen g.F.Flash.words g.F.Flash.journal g.F.Flash.faults g.F.Flash.writes) g.F.Flash.part l.fn.emulator job (seen_as (g.X.Runner.is_out l.fn.runner) (g.X.Runner.raised l.fn.runner) (g.X.Runner.may_give l.fn.runner) (g.X.Runner.launches l.fn.runner) (g.X.Runner.collects l.fn.runner) (g.X.Runner.faults l.fn.runner)) →
      (out : List ℕ) × Continues (seen g.F.Flash.words g.F.Flash.journal g.F.Flash.faults g.F.Flash.writes) g.F.Flash.part (TakesFront (chip_of l.fn.emulator.tool.plan.part) (take l.used l.chunk)) l.fn.emulator job
      (seen_as (g.X.Runner.is_out l.fn.runner) (g.X.Runner.raised l.fn.runner) (g.X.Runner.may_give l.fn.runner) (g.X.Runner.launches l.fn.runner) (g.X.Runner.collects l.fn.runner) (g.X.Runner.faults l.fn.runner)) out l.emulator (seen_as (g.X.Runner.is_out l.runner) (g.X.Runner.raised l.runner) (g.X.Runner.may_give l.runner) (g.X.Runner.launches l.runner) (g.X.Runner.collects l.runner) (g.X.Runner.faults l.runner)) ×
      WritesAll (g.K.Sink.written l.fn.sink) (g.K.Sink.written l.sink) (g.K.Sink.faults l.fn.sink) (g.K.Sink.faults l.sink) out ×
      (listens l.fn.emulator.tool.mode ≡ false → out ≡ []);
}

abbrev pub decreases-frames : goal.decreases-frames
decreases-frames g l = length l.emulator.receiver.held + (length l.chunk - l.used)
