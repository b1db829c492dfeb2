use Rattle.std.proofs.Common.{◌≡◌, ◌++◌, take, drop}
use Rattle.ice_script.proofs.queue.take_front.Given as goal

abbrev pub invariant-slots : goal.invariant-slots
invariant-slots l = record {
  count : l.count ≡ l.slot-index;
  capacity : l.bytes.capacity ≡ l.initial.bytes.capacity;
  taken : l.initial.bytes.items ≡ take l.slot-index l.buf ++ l.bytes.items;
  rest : drop l.slot-index l.buf ≡ drop l.slot-index l.initial.buf;
}
