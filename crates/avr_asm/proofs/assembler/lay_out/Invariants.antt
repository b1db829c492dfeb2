use Rattle.std.proofs.Common.{◌≡◌, ◌+◌, ◌≤◌, length}
use Rattle.part_spec.specs.Chip.{chip_of}
use Rattle.asm_spec.specs.Words.{Laid, laid_on, lines_of, start}
use Rattle.avr_asm.specs.Cuts.{left_size, lines_left, rest_told}
use Rattle.avr_asm.specs.Sheets.{Keeps}
use Rattle.avr_asm.proofs.assembler.lay_out.Given as goal

abbrev pub invariant-lines : goal.invariant-lines
invariant-lines l = record {
  laid : (laid : Laid) × Keeps (chip_of l.part) l.sheet laid
      × (laid_on (chip_of l.part) 1 start (lines_of l.text) ≡ laid_on (chip_of l.part) l.line laid (lines_left (rest_told l.left)));
  small : l.line + left_size (rest_told l.left) ≤ length l.text + 2;
}

abbrev pub decreases-lines : goal.decreases-lines
decreases-lines l = left_size (rest_told l.left)
