use Rattle.std.proofs.Common.{ap, length, arith}
use Rattle.ice_text.proofs.Decimals.{length-decimal}
use Rattle.ice_text.proofs.tests.texts_of_each_kind.Goals as goal

pub push_decimal-requires : goal.push_decimal-requires
push_decimal-requires g c =
    let most = length-decimal 18446744073709551615 (omega arith) in
    let sizes = ap length c.new-line.ensures in
    (omega arith, omega (arith, most, sizes, c.push_text.ensures.size, c.push_hex.ensures.size, c.push_text-2.ensures.size))
