use Rattle.std.proofs.Common.{ℕ, ◌+◌, ◌-◌, ◌%◌, refl, ap, ◌∙◌, arith}
use Rattle.avr_spec.specs.Bytes.{bit}
use Rattle.avr_alu.specs.declared.status.Decided.{Decided}
use Rattle.avr_alu.specs.Status.{alu_result_in}
use Rattle.avr_alu.specs.Carries.{carry_bits, decided_by}
use Rattle.avr_alu.proofs.Agreeing.{carried}
use Rattle.avr_alu.proofs.Borrows.{as_bit, bit-below, lowered, lowered-is, low-lowered}
use Rattle.avr_alu.proofs.DifferenceCarries.{decided_by-difference}
use Rattle.avr_alu.proofs.sums.difference.Goals as goal

pub returns : goal.returns
returns c = λ f.
    let a = c.args.a in
    let b = c.args.b in
    let k = bit c.args.borrow in
    let wide = (65536 + a - (b + k)) % 65536 in
    ap (λ (n : ℕ). let w = lowered n a b in alu_result_in (w % 256, decided_by (w % 256) (carry_bits (carried a b w))) f)
    (as_bit c.args.borrow) ∙
    ap (λ (w : ℕ). alu_result_in (w % 256, decided_by (w % 256) (carry_bits (carried a b w))) f)
    (lowered-is a b k (omega arith) (omega arith) (bit-below c.args.borrow)) ∙
    ap (λ (v : ℕ). alu_result_in (v, decided_by v (carry_bits (carried a b wide))) f)
    (low-lowered a b k (omega arith) (omega arith) (bit-below c.args.borrow)) ∙
    ap (λ (d : Decided). alu_result_in ((256 + a - (b + k)) % 256, d) f)
    (decided_by-difference a b wide k (omega arith) (omega arith) (bit-below c.args.borrow) refl)
