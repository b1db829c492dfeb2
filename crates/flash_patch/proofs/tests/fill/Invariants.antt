use Rattle.std.proofs.Common.{◌≡◌, ◌≤◌}
use Rattle.flash_patch.proofs.tests.fill.Given as goal

abbrev pub invariant-loop-number : goal.invariant-loop-number
invariant-loop-number l = record {
  part : l.plan.part ≡ l.fn.plan.part;
  few : l.count ≤ l.number;
}
