use Rattle.std.proofs.Common.{◌≡◌, ◌++◌, false, take, drop}
use Rattle.debug_spec.specs.Patch.{has as has_by}
use Rattle.debug_spec.specs.Breakpoints.{inserted}
use Rattle.flash_patch.proofs.addresses.place_of.Given as goal

abbrev pub invariant-loop-other : goal.invariant-loop-other
invariant-loop-other l = record {
  place : l.place ≡ l.other-index;
  new : has_by (drop l.other-index l.set) l.address ≡ false;
  goes : inserted l.address l.set ≡ take l.other-index l.set ++ inserted l.address (drop l.other-index l.set);
}
