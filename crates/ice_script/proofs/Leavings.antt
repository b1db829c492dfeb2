-- What is left of a wire, by whether its debugger listened.
use Rattle.std.proofs.Common.{◌≡◌, Bool, true, false, Some, refl, sym, ap, ◌∙◌, subst}
use Rattle.std.specs.Prelude.{not}
use Rattle.part_spec.specs.declared.part.Part.{Part}
use Rattle.debug_spec.specs.Moved.{Flash}
use Rattle.debug_spec.specs.Debugger.{closed, listens}
use Rattle.run_control.specs.declared.job.Job.{Job}
use Rattle.ice_emul.specs.Beginning.{Leaves}
use Rattle.ice_replay.specs.Endings.{is_closed}
use Rattle.ice_script.specs.Leaving.{EndsIf, LeavesBehind}
use Rattle.ice_script.specs.Wires.{LineEndsThen, Side, StandsBy, WireState}
use Rattle.ice_script.specs.declared.wire.Left.{Left}
use Rattle.ice_script.proofs.Answering.{closed_deaf}

module _ {F : Type 0} (flash : Flash F) (part_of : F → Part) (w : WireState F) (given : Left F) (restored : Bool)
    (told : given.restored ≡ restored) where
  -- it was closed before
  pub closed_before : listens w.side.emulator.tool.mode ≡ false → StandsBy (listens w.side.emulator.tool.mode) w.side.emulator →
      (w.lost ≡ false → is_closed w.side.emulator.tool.mode ≡ true → w.side.emulator.tool.mode ≡ closed restored) →
      given.signed ≡ true →
      ((job : Job F) → w.side.emulator.target ≡ Some job → Leaves w.side.emulator job given.flash given.totals) →
      LeavesBehind flash part_of w given
  closed_before off stands kept signed leaves =
      let shut : is_closed w.side.emulator.tool.mode ≡ true = subst (λ (b : Bool). StandsBy b w.side.emulator) off stands in
      record {
        at = w.side;
        ends = subst (λ (b : Bool). EndsIf flash part_of b w.side w.side) (sym off) refl;
        shut = shut;
        lost = λ l. off;
        mode = λ l. kept l shut ∙ ap closed (sym told);
        signed = signed ∙ ap not (sym off);
        leaves = leaves;
      }

  -- its line ends
  pub closed_then : (at : Side F) → listens w.side.emulator.tool.mode ≡ true →
      (w.lost ≡ true → is_closed w.side.emulator.tool.mode ≡ true) → LineEndsThen flash part_of w.side at →
      at.emulator.tool.mode ≡ closed restored → given.signed ≡ false →
      ((job : Job F) → at.emulator.target ≡ Some job → Leaves at.emulator job given.flash given.totals) →
      LeavesBehind flash part_of w given
  closed_then at on lost ends mode signed leaves = record {
    at = at;
    ends = subst (λ (b : Bool). EndsIf flash part_of b w.side at) (sym on) ends;
    shut = ap is_closed mode;
    lost = λ l. closed_deaf w.side.emulator.tool.mode (lost l);
    mode = λ l. mode ∙ ap closed (sym told);
    signed = signed ∙ ap not (sym on);
    leaves = leaves;
  }
