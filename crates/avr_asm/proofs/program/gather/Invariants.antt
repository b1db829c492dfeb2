use Rattle.std.proofs.Common.{◌≡◌, ◌<◌, ◌≤◌, ◌-◌, ◌++◌, length, drop}
use Rattle.part_spec.specs.Chip.{chip_of}
use Rattle.asm_spec.specs.Listing.{lines_from}
use Rattle.avr_asm.proofs.program.gather.Given as goal

abbrev pub invariant-lines : goal.invariant-lines
invariant-lines l = record {
  further : l.fn.start < l.place;
  within : l.place ≤ length l.program;
  lines : lines_from (chip_of l.fn.part) 0 (drop l.fn.start l.program) ≡
      l.lines.items ++ lines_from (chip_of l.fn.part) 0 (drop l.place l.program);
}

abbrev pub decreases-lines : goal.decreases-lines
decreases-lines l = length l.program - l.place
