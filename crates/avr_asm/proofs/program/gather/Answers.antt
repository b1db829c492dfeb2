use Rattle.std.proofs.Common.{ℕ, List, [], ◌++◌, ap, ◌∙◌, refl, arith}
use Rattle.part_spec.specs.Chip.{chip_of}
use Rattle.asm_spec.specs.Listing.{line_of, shown_at}
use Rattle.avr_asm.proofs.Pieces.{one_more}
use Rattle.avr_asm.proofs.program.gather.Goals as goal

pub lines-init : goal.lines-init
lines-init c =
    let program : List ℕ = c.args.program.now in
    let line : List ℕ = line_of (chip_of c.args.part) (shown_at (chip_of c.args.part) program c.args.start) in
    record {
      further = omega arith;
      within = c.add_line.ensures.within;
      lines = one_more (chip_of c.args.part) program c.args.start c.args.start c.args.used c.add_line.result [] c.add_line.new.lines.items
          c.requires.used c.requires.start c.requires.within refl
          (c.add_line.ensures.line ∙ ap (λ (front : List ℕ). front ++ line) c.requires.empty) c.add_line.ensures.words c.add_line.ensures.some;
    }

pub lines-preserved : goal.lines-preserved
lines-preserved c = record {
  further = omega arith;
  within = c.add_line-place.ensures.within;
  lines = one_more (chip_of c.args.part) c.args.program.now c.args.start c.lines.place c.args.used c.add_line-place.result c.lines.lines.items
      c.add_line-place.new.lines.items c.requires.used (omega arith) c.requires.within c.lines.invariant.lines c.add_line-place.ensures.line
      c.add_line-place.ensures.words c.add_line-place.ensures.some;
}
