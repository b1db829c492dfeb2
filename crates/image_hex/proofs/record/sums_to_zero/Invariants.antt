use Rattle.std.proofs.Common.{◌≡◌, ◌%◌, take, sum}
use Rattle.image_hex.proofs.record.sums_to_zero.Given as goal

abbrev pub invariant-loop-byte : goal.invariant-loop-byte
invariant-loop-byte l = l.sum ≡ sum (take l.byte-index l.bytes) % 256
