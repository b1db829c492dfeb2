use Rattle.std.proofs.Common.{◌∙◌, arith}
use Rattle.debug_shell.proofs.Numbers.{digits_of-passed}
use Rattle.debug_shell.proofs.operands.are_digits.Goals as goal

pub returns : goal.returns
returns c =
    c.all_digits.ensures ∙ digits_of-passed c.args.least c.args.most c.args.word.now c.if-word-least.false c.if-word-most.false (omega (arith, c.if-word-eq1.false))
