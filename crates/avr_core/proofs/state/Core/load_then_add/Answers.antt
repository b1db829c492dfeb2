use Rattle.std.proofs.Common.{ℕ, refl, ap, ◌∙◌}
use Rattle.avr_spec.specs.Kept.{kept}
use Rattle.avr_spec.specs.Memory.{plus, load, with_reg, with_pair}
use Rattle.avr_core.proofs.state.Core.load_then_add.Goals as goal

pub returns : goal.returns
returns c = λ part p h.
    let address = c.pair-before.result in
    let added = with_pair c.args.pointer (plus address 1) p in (
      c.set_reg.ensures part added (c.set_pair.ensures part p h) ∙
          ap (λ (b : ℕ). kept part (with_reg c.args.d b added)) (c.data_at-byte.ensures part p h) ∙
          ap (λ (a : ℕ). kept part (with_reg c.args.d (load part a p) (with_pair c.args.pointer (plus a 1) p))) (c.pair-before.ensures part p h),
      refl,
    )
