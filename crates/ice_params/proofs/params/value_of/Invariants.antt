use Rattle.std.proofs.Common.{◌≡◌, take}
use Rattle.ice_params.proofs.params.value_of.Given as goal

abbrev pub invariant-loop-byte : goal.invariant-loop-byte
invariant-loop-byte l = l.value.items ≡ take l.byte-index l.bytes
