use Rattle.std.proofs.Common.{◌≡◌, ◌≤◌, ◌-◌, ◌++◌, List, ℕ, length, drop}
use Rattle.part_spec.specs.Chip.{chip_of}
use Rattle.ice_line.specs.Lines.{WritesAll}
use Rattle.asm_spec.specs.Listing.{lines_from}
use Rattle.avr_asm.proofs.program.list_program.Given as goal

abbrev pub invariant-pieces : goal.invariant-pieces
invariant-pieces g l = record {
  within : l.place ≤ length l.program;
  gone : (told : List ℕ) ×
      WritesAll (g.K.Sink.written l.fn.sink) (g.K.Sink.written l.sink) (g.K.Sink.faults l.fn.sink) (g.K.Sink.faults l.sink) told ×
      (lines_from (chip_of l.fn.part) 0 l.program ≡ told ++ lines_from (chip_of l.fn.part) 0 (drop l.place l.program));
}

abbrev pub decreases-pieces : goal.decreases-pieces
decreases-pieces g l = length l.program - l.place
