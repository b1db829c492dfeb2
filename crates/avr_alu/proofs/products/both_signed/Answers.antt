use Rattle.std.proofs.Common.{arith}
use Rattle.avr_alu.proofs.SignedProducts.{product_of_extended}
use Rattle.avr_alu.proofs.products.both_signed.Goals as goal

pub returns : goal.returns
returns c =
    product_of_extended c.args.a c.args.b c.extended.result c.extended-2.result (omega arith) (omega arith)
    c.extended.ensures c.extended-2.ensures
