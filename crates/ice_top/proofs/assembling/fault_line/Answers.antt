use Rattle.std.proofs.Common.{ap, length, arith}
use Rattle.ice_text.proofs.Decimals.{length-decimal}
use Rattle.ice_top.proofs.assembling.fault_line.Goals as goal

pub push_decimal-requires : goal.push_decimal-requires
push_decimal-requires c =
    omega (arith, ap length c.new-line.ensures, c.push_text.ensures.size, length-decimal c.from.result (omega (arith, c.from.ensures)))
