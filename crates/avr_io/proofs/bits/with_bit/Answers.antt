use Rattle.std.proofs.Common.{Bool, arith, sym, ap, ◌∙◌}
use Rattle.avr_spec.specs.Bytes.{with_bit}
use Rattle.avr_io.proofs.BitLemmas.{or-sets_bit, and-clears_bit}
use Rattle.avr_io.proofs.bits.with_bit.Goals as goal

pub returns-then-wanted : goal.returns-then-wanted
returns-then-wanted c =
    or-sets_bit c.args.byte c.args.k (omega (arith, c.ranges.byte)) c.requires ∙
    ap (λ (w : Bool). with_bit c.args.byte c.args.k w) (sym c.if-wanted.true)

pub returns-else-wanted : goal.returns-else-wanted
returns-else-wanted c =
    and-clears_bit c.args.byte c.args.k (omega (arith, c.ranges.byte)) c.requires ∙
    ap (λ (w : Bool). with_bit c.args.byte c.args.k w) (sym c.if-wanted.false)
