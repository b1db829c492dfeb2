use Rattle.std.proofs.Common.{ℕ, Bool, ◌&&◌, ap, ◌∙◌}
use Rattle.avr_spec.specs.Bytes.{bit}
use Rattle.avr_spec.specs.Sreg.{flags_of, byte_of}
use Rattle.avr_spec.specs.Flags.{AluResult, difference_of}
use Rattle.avr_alu.specs.declared.status.Decided.{Decided}
use Rattle.avr_alu.proofs.sums.sbc.Goals as goal

-- the old carry is that of SREG, and the rest is the difference's
pub returns : goal.returns
returns c =
    let f = flags_of c.args.sreg in
    ap (λ (n : ℕ). (c.difference-value.result.0, n)) c.with_carries_of_more.ensures ∙
    ap (λ (o : AluResult). (o.value, byte_of (record o.flags { zero = o.flags.zero && f.zero }))) (c.difference-value.ensures f) ∙
    ap
    (λ (b : Bool).
    let o = difference_of (bit b) c.args.a c.args.b f in (o.value, byte_of (record o.flags { zero = o.flags.zero && f.zero })))
    (ap (λ (d : Decided). d.carry) c.flags.ensures)
