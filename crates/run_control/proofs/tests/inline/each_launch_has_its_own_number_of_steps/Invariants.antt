use Rattle.std.proofs.Common.{◌≡◌, false}
use Rattle.run_control.specs.Ends.{IsSoundInline, is_taken}
use Rattle.run_control.proofs.tests.inline.each_launch_has_its_own_number_of_steps.Given as goal

abbrev pub invariant-loop-steps : goal.invariant-loop-steps
invariant-loop-steps g l = record {
  sound : IsSoundInline l.runner.stops.items l.runner.seat;
  free : is_taken l.runner.seat ≡ false;
  launches : l.runner.launches ≡ l.steps-index;
  collects : l.runner.collects ≡ l.steps-index;
}
