use Rattle.std.proofs.Common.{length, ap, arith, length-append}
use Rattle.debug_shell.proofs.Decimals.{length-decimal}
use Rattle.debug_shell.proofs.answers.column_line.Goals as goal

pub put_decimal-requires : goal.put_decimal-requires
put_decimal-requires c =
    omega (arith, ap length c.append.ensures, ap length c.new-text.ensures, length-append c.new-text.result.items c.args.given.now, length-decimal c.args.column (omega arith))
