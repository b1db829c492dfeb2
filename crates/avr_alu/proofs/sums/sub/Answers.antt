use Rattle.std.proofs.Common.{ℕ, ap, ◌∙◌}
use Rattle.avr_spec.specs.Sreg.{flags_of, byte_of}
use Rattle.avr_spec.specs.Flags.{AluResult}
use Rattle.avr_alu.proofs.sums.sub.Goals as goal

pub returns : goal.returns
returns c =
    ap (λ (n : ℕ). (c.difference-value.result.0, n)) c.with_carries.ensures ∙
    ap (λ (o : AluResult). (o.value, byte_of o.flags)) (c.difference-value.ensures (flags_of c.args.sreg))
