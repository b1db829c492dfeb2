use Rattle.std.proofs.Common.{◌≡◌, drop}
use Rattle.debug_spec.specs.Patch.{has as has_by}
use Rattle.flash_patch.proofs.addresses.has.Given as goal

abbrev pub invariant-loop-other : goal.invariant-loop-other
invariant-loop-other l = has_by l.set l.address ≡ has_by (drop l.other-index l.set) l.address
