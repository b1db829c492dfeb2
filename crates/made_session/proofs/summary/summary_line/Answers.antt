use Rattle.std.proofs.Common.{ap, length, arith}
use Rattle.made_session.proofs.Decimals.{length-decimal}
use Rattle.made_session.proofs.summary.summary_line.Goals as goal

pub push_decimal-requires : goal.push_decimal-requires
push_decimal-requires c = omega (arith, ap length c.new-line.ensures, length-decimal c.from.result (omega arith))

pub push_decimal-requires-2 : goal.push_decimal-requires-2
push_decimal-requires-2 c = omega (arith, ap length c.new-line.ensures, length-decimal c.args.replies (omega arith))

pub push_decimal-requires-3 : goal.push_decimal-requires-3
push_decimal-requires-3 c = omega (arith, ap length c.new-line.ensures, length-decimal c.args.events (omega arith))
