use Rattle.std.proofs.Common.{◌/◌, ◌^◌}
use Rattle.std.specs.Prelude.{◌==◌, count_by}
use Rattle.avr_asm.proofs.Making.{halved_more}
use Rattle.avr_asm.proofs.fields.halved.Goals as goal

pub letters-preserved : goal.letters-preserved
letters-preserved c =
    halved_more (c.args.value / 2 ^ count_by (λ other. other == c.args.letter) c.args.behind.now) c.args.letter c.args.behind.now c.letters.other-index
    c.letters.half c.halved_if-half.result c.letters-test.true c.halved_if-half.ensures c.letters.invariant
