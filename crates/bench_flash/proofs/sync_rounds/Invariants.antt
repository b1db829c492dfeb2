use Rattle.std.proofs.Common.{◌≡◌, ◌≤◌}
use Rattle.bench_flash.proofs.sync_rounds.Given as goal

abbrev pub invariant-loop-round : goal.invariant-loop-round
invariant-loop-round l = record {
  part : l.flash.part ≡ l.plan.part;
  few : l.well ≤ l._round;
}
