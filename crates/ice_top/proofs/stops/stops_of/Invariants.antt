use Rattle.std.proofs.Common.{◌≤◌, length}
use Rattle.ice_top.proofs.StopLemmas.{Read}
use Rattle.ice_top.proofs.stops.stops_of.Given as goal

abbrev pub invariant-loop-piece : goal.invariant-loop-piece
invariant-loop-piece l = record {
  read : Read l.text (length l.yielded) l.stops.items;
  most : length l.yielded ≤ 64;
}
