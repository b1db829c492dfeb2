use Rattle.std.proofs.Common.{◌≡◌, ◌≤◌, ◌++◌, drop, length}
use Rattle.debug_spec.specs.Patch.{without as without_by}
use Rattle.flash_patch.proofs.addresses.without.Given as goal

abbrev pub invariant-loop-other : goal.invariant-loop-other
invariant-loop-other g l = record {
  few : length l.others.items ≤ l.other-index;
  rest : l.others.items ++ without_by l.address (drop l.other-index l.set) ≡ without_by l.address l.set;
}
