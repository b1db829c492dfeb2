use Rattle.std.proofs.Common.{◌≡◌}
use Rattle.ice_frame.specs.Zeros.{over_zeros}
use Rattle.ice_frame.proofs.behind.after_zeros.Given as goal

abbrev pub invariant-loop : goal.invariant-loop
invariant-loop l = l.after ≡ over_zeros l.counter l.fn.register
