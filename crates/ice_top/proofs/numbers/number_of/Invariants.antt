use Rattle.std.proofs.Common.{◌≡◌, ◌≤◌, take}
use Rattle.std.specs.List.{All}
use Rattle.ice_top.specs.Stops.{number_of}
use Rattle.ice_top.proofs.numbers.number_of.Given as goal

abbrev pub invariant-loop-byte : goal.invariant-loop-byte
invariant-loop-byte l = record {
  number : l.number ≡ number_of (take l.byte-index l.text);
  most : l.number ≤ l.most;
  digits : All (λ c. (48 ≤ c) × (c ≤ 57)) (take l.byte-index l.text);
}
