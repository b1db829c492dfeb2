use Rattle.std.proofs.Common.{◌≡◌, take}
use Rattle.ice_inbox.proofs.line_work.chunk_of.Given as goal

abbrev pub invariant-loop-byte : goal.invariant-loop-byte
invariant-loop-byte l = l.chunk.items ≡ take l.byte-index l.bytes
