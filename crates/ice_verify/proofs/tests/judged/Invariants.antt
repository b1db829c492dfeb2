use Rattle.ice_verify.specs.Checking.{IsSound}
use Rattle.ice_verify.proofs.tests.judged.Given as goal

abbrev pub invariant-loop-place : goal.invariant-loop-place
invariant-loop-place l = IsSound l.verifier
