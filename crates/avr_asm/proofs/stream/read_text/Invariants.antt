use Rattle.std.proofs.Common.{◌≡◌, ◌≤◌, ◌-◌, length, take}
use Rattle.std.specs.Io.KnownBytes.{Consumes}
use Rattle.avr_asm.proofs.stream.read_text.Given as goal

abbrev pub invariant-reads : goal.invariant-reads
invariant-reads g l = record {
  within : l.filled ≤ length l.buffer;
  size : length l.buffer ≡ length l.initial.buffer;
  read : Consumes (g.S.Source.left l.fn.source) (g.S.Source.left l.source) (take l.filled l.buffer);
  still : g.S.Source.faults l.source ≡ g.S.Source.faults l.fn.source;
}

abbrev pub decreases-reads : goal.decreases-reads
decreases-reads g l = length l.buffer - l.filled
