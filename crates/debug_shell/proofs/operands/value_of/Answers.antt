use Rattle.std.proofs.Common.{sym, ◌∙◌, arith}
use Rattle.debug_shell.proofs.Numbers.{digit_fits, number_on-other}
use Rattle.debug_shell.proofs.operands.value_of.Goals as goal

pub overflow_mul-number : goal.overflow_mul-number
overflow_mul-number c = omega (arith, digit_fits c.digits.number c.digits.digit-index (omega (arith, c.requires, c.digits-test.true)) c.digits.invariant.below)

pub overflow_add-number : goal.overflow_add-number
overflow_add-number c =
    omega (arith, digit_fits c.digits.number c.digits.digit-index (omega (arith, c.requires, c.digits-test.true)) c.digits.invariant.below, c.in-Some.ensures.limit)

pub returns-in-None : goal.returns-in-None
returns-in-None c =
    sym (number_on-other c.digits.number c.args.word.now c.digits.digit-index c.digits-test.true (sym c.in-None.ensures.value)) ∙ c.digits.invariant.so_far
