use Rattle.std.proofs.Common.{ap, length, arith}
use Rattle.ice_text.proofs.Decimals.{length-decimal}
use Rattle.ice_text.proofs.push_decimal.Goals as goal

pub push_digits-requires : goal.push_digits-requires
push_digits-requires g c = omega (arith, ap length c.new-digits.ensures, length-decimal c.args.number (omega arith))
