use Rattle.std.proofs.Common.{◌≡◌}
use Rattle.flash_patch.proofs.tests.set_all.Given as goal

abbrev pub invariant-loop-address : goal.invariant-loop-address
invariant-loop-address l = l.plan.part ≡ l.fn.plan.part
