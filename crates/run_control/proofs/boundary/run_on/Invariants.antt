use Rattle.std.proofs.Common.{◌≡◌, ℕ, suc, ◌<◌, ◌≤◌, ◌+◌, ◌-◌, ◌%◌, ◌^◌, false, [], None}
use Rattle.part_spec.specs.Chip.{Chip}
use Rattle.avr_spec.specs.Kept.{kept}
use Rattle.debug_spec.specs.Stop.{compared}
use Rattle.debug_spec.specs.Run.{Run, onward, after, natural_end}
use Rattle.run_control.proofs.boundary.run_on.Given as goal

abbrev pub invariant-boundaries : goal.invariant-boundaries
invariant-boundaries g l = record {
  some : 0 < l.tested;
  within : l.free + l.tested ≤ l.budget;
  none_holds : 0 < l.free → (address : ℕ) → compared l.comparators address ≡ false;
  part : l.core.part ≡ l.fn.core.part;
  looks : (g.L.StopLook.looks l.look) % 2 ^ 64 ≡ (g.L.StopLook.looks l.fn.look + (l.budget - (l.free + l.tested))) % 2 ^ 64;
  yes : (g.L.StopLook.yes l.look) % 2 ^ 64 ≡ (g.L.StopLook.yes l.fn.look) % 2 ^ 64;
  mark : g.L.StopLook.mark l.look ≡ g.L.StopLook.mark l.fn.look;
  made : (part : Chip) (r : Run) → l.fn.core ≡ kept part (onward part r).start → r.later ≡ g.F.Flash.words l.flash → r.stops ≡ [] →
      r.comparators ≡ l.comparators →
      (natural_end part r (l.budget - (l.free + l.tested)) ≡ None) ×
      (l.core ≡ kept part (after part r (suc (l.budget - (l.free + l.tested)))));
}

abbrev pub decreases-boundaries : goal.decreases-boundaries
decreases-boundaries g l = l.free + l.tested
