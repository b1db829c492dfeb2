use Rattle.std.proofs.Common.{◌≡◌, ◌≤◌, ◌+◌, length}
use Rattle.ice_line.specs.Reads.{input_limit}
use Rattle.record_check.specs.Taking.{IsGoing}
use Rattle.record_check.proofs.Reading.{Reading}
use Rattle.record_check.proofs.stream.read_record.Given as goal

abbrev pub invariant-chunks : goal.invariant-chunks
invariant-chunks g l = record {
  going : IsGoing l.checker;
  few : l.checker.lines + l.allowed ≤ input_limit;
  size : length l.buffer ≡ 512;
  counts : g.S.Source.faults l.source ≡ g.S.Source.faults l.fn.source;
  reads : Reading (g.S.Source.left l.fn.source) (g.S.Source.left l.source) l.allowed l.initial.checker l.checker;
}

abbrev pub decreases-chunks : goal.decreases-chunks
decreases-chunks g l = l.allowed
