use Rattle.std.proofs.Common.{arith}
use Rattle.avr_alu.proofs.MixedProducts.{product_of_first_extended}
use Rattle.avr_alu.proofs.products.first_signed.Goals as goal

pub returns : goal.returns
returns c = product_of_first_extended c.args.a c.args.b c.extended.result (omega arith) (omega arith) c.extended.ensures
