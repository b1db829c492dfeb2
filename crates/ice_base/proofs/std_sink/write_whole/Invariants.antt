use Rattle.std.proofs.Common.{◌-◌, ◌≤◌, length, take}
use Rattle.std.specs.Io.KnownBytes.{Appends}
use Rattle.ice_base.proofs.std_sink.write_whole.Given as goal

-- a front of the piece is written
abbrev pub invariant-loop-done : goal.invariant-loop-done
invariant-loop-done g l = (l.done ≤ length l.piece) × Appends (g.W.Write.contents l.fn.writer) (g.W.Write.contents l.writer) (take l.done l.piece)

-- each write takes a byte at least
abbrev pub decreases-loop-done : goal.decreases-loop-done
decreases-loop-done g l = length l.piece - l.done
