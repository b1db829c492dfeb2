use Rattle.std.proofs.Common.{◌≡◌, ◌||◌, drop}
use Rattle.flash_patch.specs.State.{touches as touches_by}
use Rattle.flash_patch.proofs.pages.touches.Given as goal

abbrev pub invariant-loop-address : goal.invariant-loop-address
invariant-loop-address l = touches_by l.page l.set ≡ (l.found || touches_by l.page (drop l.address-index l.set))
