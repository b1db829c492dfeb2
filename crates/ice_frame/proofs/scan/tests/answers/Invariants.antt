use Rattle.std.proofs.Common.{◌≡◌}
use Rattle.ice_frame.specs.Scans.{IsGoing}
use Rattle.ice_frame.specs.declared.scan.Scanned.TheVariants.{More}
use Rattle.ice_frame.proofs.scan.tests.answers.Given as goal

abbrev pub invariant-loop-byte : goal.invariant-loop-byte
invariant-loop-byte l = record {
  going : l.answer ≡ More → IsGoing l.scan;
  looks : l.looks ≡ l.byte-index;
}
