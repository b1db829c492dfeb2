use Rattle.std.proofs.Common.{refl, arith}
use Rattle.part_spec.specs.Chip.{chip_of}
use Rattle.avr_asm.proofs.Keeping.{keeps_origin}
use Rattle.avr_asm.proofs.sheet.lay_order.Goals as goal

pub returns-then-place-from : goal.returns-then-place-from
returns-then-place-from c = λ laid keeps fits.
    keeps_origin (chip_of c.args.part) c.args.number c.args.order c.in-Origin.place c.args.sheet.now laid keeps c.in-Origin.is
    (omega (arith, c.if-place-from.true, c.from.ensures, c.words.ensures)) _ refl refl refl refl
