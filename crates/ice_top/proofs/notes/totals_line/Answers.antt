use Rattle.std.proofs.Common.{ap, length, arith}
use Rattle.ice_text.proofs.Decimals.{length-decimal}
use Rattle.ice_top.proofs.notes.totals_line.Goals as goal

pub push_decimal-requires : goal.push_decimal-requires
push_decimal-requires c = omega (arith, ap length c.new-line.ensures, length-decimal c.args.cycles (omega arith))

pub push_decimal-requires-2 : goal.push_decimal-requires-2
push_decimal-requires-2 c = omega (arith, ap length c.new-line.ensures, length-decimal c.args.steps (omega arith))

pub push_decimal-requires-3 : goal.push_decimal-requires-3
push_decimal-requires-3 c = omega (arith, ap length c.new-line.ensures, length-decimal c.args.writes (omega arith))

pub push_decimal-requires-4 : goal.push_decimal-requires-4
push_decimal-requires-4 c = omega (arith, ap length c.new-line.ensures, length-decimal c.args.dropped (omega arith))
