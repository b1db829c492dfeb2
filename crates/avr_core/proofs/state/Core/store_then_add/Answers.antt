use Rattle.std.proofs.Common.{ℕ, refl, ap, ◌∙◌}
use Rattle.avr_spec.specs.Kept.{kept}
use Rattle.avr_spec.specs.Memory.{plus, reg, store, with_pair}
use Rattle.avr_core.proofs.state.Core.store_then_add.Goals as goal

pub returns : goal.returns
returns c = λ part p h.
    let address = c.pair-address.result in
    let byte = c.reg-byte.result in (
      c.set_pair.ensures part (store part address byte p) (c.put_data.ensures part p h) ∙
          ap (λ (b : ℕ). kept part (with_pair c.args.pointer (plus address 1) (store part address b p))) (c.reg-byte.ensures part p h) ∙
          ap (λ (a : ℕ). kept part (with_pair c.args.pointer (plus a 1) (store part a (reg p c.args.r) p))) (c.pair-address.ensures part p h),
      refl,
    )
