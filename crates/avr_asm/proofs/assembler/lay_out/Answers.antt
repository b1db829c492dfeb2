use Rattle.std.proofs.Common.{ℕ, List, ap, ◌∙◌}
use Rattle.std.specs.Prelude.{Option}
use Rattle.std.specs.Borrow.{Bor}
use Rattle.part_spec.specs.Chip.{chip_of}
use Rattle.asm_spec.specs.Words.{laid_on}
use Rattle.avr_asm.specs.Cuts.{lines_left, rest_told}
use Rattle.avr_asm.proofs.Answering.{lays_wrong}
use Rattle.avr_asm.proofs.assembler.lay_out.Goals as goal

pub returns-in-Err-lay_line : goal.returns-in-Err-lay_line
returns-in-Err-lay_line c =
    let laid = c.lines.invariant.laid in
    lays_wrong (chip_of c.args.part) c.lines.line c.first_line-cut.result.line.now (lines_left (rest_told c.first_line-cut.result.rest)) laid.0
    c.in-Err-lay_line.stop c.lay_line.new.sheet c.refused.result _ c.refused.ensures (c.in-Err-lay_line.ensures laid.0 laid.1)
    (laid.2 ∙ ap (λ (o : Option (Bor (List ℕ))). laid_on (chip_of c.args.part) c.lines.line laid.0 (lines_left (rest_told o))) c.in-Some.is
    ∙ ap (laid_on (chip_of c.args.part) c.lines.line laid.0) c.first_line-cut.ensures.lines)
