use Rattle.std.proofs.Common.{◌≡◌}
use Rattle.bench_flash.proofs.set_some.Given as goal

-- the plan keeps its part
abbrev pub invariant-loop-number : goal.invariant-loop-number
invariant-loop-number l = l.plan.part ≡ l.fn.plan.part
