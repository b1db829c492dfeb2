use Rattle.std.proofs.Common.{sym, ap, ◌∙◌, subst}
use Rattle.debug_spec.specs.Debugger.{closed}
use Rattle.flash_patch.specs.Asking.{seen}
use Rattle.ice_script.specs.Leaving.{LeavesBehind}
use Rattle.ice_script.specs.Wires.{WireState, side}
use Rattle.ice_script.proofs.Leavings.{closed_before, closed_then}
use Rattle.ice_script.proofs.wire.Wire.finish.Goals as goal

pub returns-then-not-listens : goal.returns-then-not-listens
returns-then-not-listens g c = record {
  leaves = subst (λ (w : WireState g.row.F.Denot). LeavesBehind (seen g.F.Flash.words g.F.Flash.journal g.F.Flash.faults g.F.Flash.writes)
      g.F.Flash.part w c.leave.result) c.self.view_is
      (closed_before (seen g.F.Flash.words g.F.Flash.journal g.F.Flash.faults g.F.Flash.writes) g.F.Flash.part
      (record {
        side = side c.self.inside.emulator c.self.inside.runner c.self.inside.queue;
        allowed = c.self.inside.allowed;
        lost = c.self.inside.lost;
      }) c.leave.result c.self.inside.restored c.leave.ensures.told.1 (sym c.listens.ensures ∙ c.if-not-listens.true)
      c.self.invariant.0.stands c.self.invariant.2 c.leave.ensures.told.0 c.leave.ensures.leaves);
}

pub returns : goal.returns
returns g c = record {
  leaves = subst (λ (w : WireState g.row.F.Denot). LeavesBehind (seen g.F.Flash.words g.F.Flash.journal g.F.Flash.faults g.F.Flash.writes)
      g.F.Flash.part w c.leave-2.result) c.self.view_is
      (closed_then (seen g.F.Flash.words g.F.Flash.journal g.F.Flash.faults g.F.Flash.writes) g.F.Flash.part
      (record {
        side = side c.self.inside.emulator c.self.inside.runner c.self.inside.queue;
        allowed = c.self.inside.allowed;
        lost = c.self.inside.lost;
      }) c.leave-2.result c.is_ok-restored.result c.leave-2.ensures.told.1
      (side c.end_line.new.emulator c.end_line.new.runner c.self.inside.queue) (sym c.listens.ensures ∙ c.if-not-listens.false)
      c.self.invariant.1 c.end_line.ensures.line (c.end_line.ensures.closed ∙ ap closed (sym c.is_ok-restored.ensures.value))
      c.leave-2.ensures.told.0 c.leave-2.ensures.leaves);
}
