use Rattle.std.proofs.Common.{ℕ, ◌+◌, ◌*◌, ◌∙◌, ap, arith}
use Rattle.std.specs.Prelude.{min}
use Rattle.avr_asm.specs.Told.{most}
use Rattle.avr_asm.proofs.Texts.{capped_more}
use Rattle.avr_asm.proofs.numbers.value_of.Goals as goal

pub digits-preserved : goal.digits-preserved
digits-preserved c = record {
  so_far = capped_more c.args.base c.args.digits.now c.digits.digit-index c.digits.number c.min-number.result c.requires.some c.digits-test.true
      (c.min-number.ensures ∙ ap (λ (digit : ℕ). min (c.args.base * c.digits.number + digit) most) c.digit_value.ensures.value)
      ∙ c.digits.invariant.so_far;
  within = omega (arith, c.min-number.ensures);
}
