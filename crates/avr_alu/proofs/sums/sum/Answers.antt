use Rattle.std.proofs.Common.{ℕ, ◌+◌, ◌%◌, refl, ap, ◌∙◌, arith}
use mir.Val.{bool_byte}
use Rattle.avr_spec.specs.Bytes.{bit}
use Rattle.avr_spec.specs.Sreg.{flags_of, byte_of}
use Rattle.avr_alu.specs.declared.status.Decided.{Decided}
use Rattle.avr_alu.specs.Status.{with_decided}
use Rattle.avr_alu.specs.Carries.{carry_bits, decided_by}
use Rattle.avr_alu.proofs.Agreeing.{carried}
use Rattle.avr_alu.proofs.Borrows.{as_bit, bit-below}
use Rattle.avr_alu.proofs.SumCarries.{decided_by-sum}
use Rattle.avr_alu.proofs.sums.sum.Goals as goal

pub returns : goal.returns
returns c =
    let a = c.args.a in
    let b = c.args.b in
    let k = bit c.args.carry in
    let f = flags_of c.args.sreg in
    ap (λ (n : ℕ). ((a + b + bool_byte c.args.carry) % 256, n)) c.with_carries.ensures ∙
    ap
    (λ (n : ℕ). let w = a + b + n in (w % 256, byte_of (with_decided (decided_by (w % 256) (carry_bits (carried a b w))) f)))
    (as_bit c.args.carry) ∙
    ap (λ (d : Decided). ((a + b + k) % 256, byte_of (with_decided d f)))
    (decided_by-sum a b (a + b + k) k (omega arith) (omega arith) (bit-below c.args.carry) refl)
