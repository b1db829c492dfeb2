use Rattle.std.proofs.Common.{◌≡◌, ◌++◌, take}
use Rattle.made_session.specs.Told.{bytes_told}
use Rattle.made_session.proofs.tally.TallySink.put.Given as goal

abbrev pub invariant-loop-byte : goal.invariant-loop-byte
invariant-loop-byte l = bytes_told l.self.log.items ≡ bytes_told l.fn.self.log.items ++ take l.byte-index l.piece
