use Rattle.std.proofs.Common.{length, decimal, ap, arith}
use Rattle.std.proofs.Math.ListN.{length-append}
use Rattle.avr_decode.proofs.Decimals.{length-decimal}
use Rattle.avr_decode.proofs.printer.push_number.Goals as goal

pub push_decimal-requires : goal.push_decimal-requires
push_decimal-requires c = omega (arith, length-decimal c.args.n (omega arith))

pub returns-clause-short : goal.returns-clause-short
returns-clause-short c =
    omega (
      arith,
      length-decimal c.args.n (omega arith),
      ap length c.push_decimal.ensures,
      length-append c.push_str.new.self.bytes (decimal c.args.n),
    )
