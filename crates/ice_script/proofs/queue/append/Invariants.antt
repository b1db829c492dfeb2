use Rattle.std.proofs.Common.{◌≡◌, ◌++◌, take}
use Rattle.ice_script.proofs.queue.append.Given as goal

abbrev pub invariant-bytes : goal.invariant-bytes
invariant-bytes l = record {
  capacity : l.bytes.capacity ≡ l.initial.bytes.capacity;
  items : l.bytes.items ≡ l.initial.bytes.items ++ take l.byte-index l.piece;
}
