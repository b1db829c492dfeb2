use Rattle.std.proofs.Common.{◌≡◌, ◌≤◌, ◌+◌, false, true, length, None}
use Rattle.debug_spec.specs.Debugger.{listens}
use Rattle.flash_patch.specs.Asking.{seen}
use Rattle.run_control.specs.declared.job.Job.{Job}
use Rattle.ice_inbox.specs.Notes.{bytes_in, has_last}
use Rattle.ice_emul.specs.Taking.{takes_line}
use Rattle.ice_serve.specs.Keeping.{IsKept, IsPlaced, seen_as}
use Rattle.ice_serve.specs.Inbox.{notes_of}
use Rattle.ice_serve.specs.Endings.{GoesSoFar}
use Rattle.ice_serve.specs.declared.note.Why.TheVariants.{Okay}
use Rattle.ice_serve.proofs.notes.take_notes.Given as goal

abbrev pub invariant-notes : goal.invariant-notes
invariant-notes g l = record {
  placed : IsPlaced (seen g.F.Flash.words g.F.Flash.journal g.F.Flash.faults g.F.Flash.writes) g.F.Flash.part l.emulator (seen_as (g.X.Runner.is_out l.runner) (g.X.Runner.raised l.runner) (g.X.Runner.may_give l.runner) (g.X.Runner.launches l.runner) (g.X.Runner.collects l.runner) (g.X.Runner.faults l.runner));
  sound : g.X.Runner.sound l.runner;
  kept : g.X.Runner.kept l.runner ≡ g.X.Runner.kept l.fn.runner;
  takes_line : takes_line l.emulator.tool.mode ≡ true;
  counted : l.launches ≡ g.X.Runner.launches l.runner;
  few : l.launches + length l.emulator.receiver.held ≤ bytes_in l.receiver.taken;
  part : l.emulator.tool.plan.part ≡ l.fn.emulator.tool.plan.part;
  last : l.last ≡ has_last l.receiver.taken;
  inbox : (l.receiver.inbox ≡ l.fn.receiver.inbox) × (l.receiver.known ≡ l.fn.receiver.known);
  quiet : (l.why ≡ Okay → ⊥) → listens l.emulator.tool.mode ≡ false;
  goes : (job : Job g.row.F.Denot) → IsKept (seen g.F.Flash.words g.F.Flash.journal g.F.Flash.faults g.F.Flash.writes) g.F.Flash.part l.fn.emulator job (seen_as (g.X.Runner.is_out l.fn.runner) (g.X.Runner.raised l.fn.runner) (g.X.Runner.may_give l.fn.runner) (g.X.Runner.launches l.fn.runner) (g.X.Runner.collects l.fn.runner) (g.X.Runner.faults l.fn.runner)) →
      GoesSoFar (seen g.F.Flash.words g.F.Flash.journal g.F.Flash.faults g.F.Flash.writes) g.F.Flash.part l.why None (notes_of l.receiver.taken) l.fn.emulator job (seen_as (g.X.Runner.is_out l.fn.runner) (g.X.Runner.raised l.fn.runner) (g.X.Runner.may_give l.fn.runner) (g.X.Runner.launches l.fn.runner) (g.X.Runner.collects l.fn.runner) (g.X.Runner.faults l.fn.runner)) (g.K.Sink.written l.fn.sink) (g.K.Sink.written l.sink) (g.K.Sink.faults l.fn.sink)
      (g.K.Sink.faults l.sink) l.emulator (seen_as (g.X.Runner.is_out l.runner) (g.X.Runner.raised l.runner) (g.X.Runner.may_give l.runner) (g.X.Runner.launches l.runner) (g.X.Runner.collects l.runner) (g.X.Runner.faults l.runner));
}
