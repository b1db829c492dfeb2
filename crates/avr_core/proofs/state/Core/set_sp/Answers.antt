use Rattle.std.proofs.Common.{ℕ, ap, ◌∙◌}
use Rattle.avr_spec.specs.Bytes.{low}
use Rattle.avr_spec.specs.IoSpace.{spl, sph}
use Rattle.avr_spec.specs.Kept.{kept}
use Rattle.avr_spec.specs.Effect.{with_io}
use Rattle.avr_core.proofs.state.Core.set_sp.Goals as goal

pub returns : goal.returns
returns c = λ part p h.
    c.store_io-2.ensures part (with_io spl c.low.result p) (c.store_io.ensures part p h) ∙
    ap (λ (l : ℕ). kept part (with_io sph c.high.result (with_io spl l p))) c.low.ensures ∙
    ap (λ (b : ℕ). kept part (with_io sph b (with_io spl (low c.args.address) p))) c.high.ensures
