use Rattle.std.proofs.Common.{ℕ, ◌+◌, ap, ◌∙◌}
use Rattle.avr_spec.specs.Bytes.{low}
use Rattle.avr_spec.specs.Kept.{kept}
use Rattle.avr_spec.specs.Memory.{with_reg}
use Rattle.avr_core.proofs.state.Core.set_pair.Goals as goal

pub returns : goal.returns
returns c = λ part p h.
    let n = c.args.n in
    c.set_reg-2.ensures part (with_reg n c.low.result p) (c.set_reg.ensures part p h) ∙
    ap (λ (byte : ℕ). kept part (with_reg (n + 1) c.high.result (with_reg n byte p))) c.low.ensures ∙
    ap (λ (byte : ℕ). kept part (with_reg (n + 1) byte (with_reg n (low c.args.word) p))) c.high.ensures
