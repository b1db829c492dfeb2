-- What is left of a wire.
use Rattle.std.specs.Prelude.{◌≡◌, Bool, true, false, not, Some}
use Rattle.part_spec.specs.declared.part.Part.{Part}
use Rattle.debug_spec.specs.Moved.{Flash}
use Rattle.debug_spec.specs.Debugger.{closed, listens}
use Rattle.run_control.specs.declared.job.Job.{Job}
use Rattle.ice_emul.specs.Beginning.{Leaves}
use Rattle.ice_replay.specs.Endings.{is_closed}
use Rattle.ice_script.specs.Wires.{LineEndsThen, Side, WireState}
use Rattle.ice_script.specs.declared.wire.Left.{Left}

-- where the debugger listens the line ends; else nothing changes
abbrev pub EndsIf : {F : Type 0} → Flash F → (F → Part) → (listening : Bool) → (before after : Side F) → Type 0
EndsIf flash part_of true before after = LineEndsThen flash part_of before after
EndsIf flash part_of false before after = after ≡ before

-- the line has ended, and this is left of a session that is closed; it was closed before where the debugger listened no more
pub record LeavesBehind {F : Type 0} (flash : Flash F) (part_of : F → Part) (w : WireState F) (left : Left F) : Type 0 where
  pub at : Side F
  pub ends : EndsIf flash part_of (listens w.side.emulator.tool.mode) w.side at
  pub shut : is_closed at.emulator.tool.mode ≡ true
  pub lost : w.lost ≡ true → listens w.side.emulator.tool.mode ≡ false
  pub mode : w.lost ≡ false → at.emulator.tool.mode ≡ closed left.restored
  pub signed : left.signed ≡ not (listens w.side.emulator.tool.mode)
  pub leaves : (job : Job F) → at.emulator.target ≡ Some job → Leaves at.emulator job left.flash left.totals
