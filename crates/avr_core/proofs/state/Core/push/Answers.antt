use Rattle.std.proofs.Common.{ℕ, refl, ap, ◌∙◌}
use Rattle.avr_spec.specs.Kept.{kept}
use Rattle.avr_spec.specs.Memory.{minus, store, with_sp, pushed}
use Rattle.avr_core.proofs.Stacking.{lowered}
use Rattle.avr_core.proofs.state.Core.push.Goals as goal

pub returns : goal.returns
returns c = λ part p h.
    let top = c.sp-top.result in
    let byte = c.reg.result in (
      c.set_sp.ensures part (store part top byte p) (c.put_data.ensures part p h) ∙
          ap (λ (a : ℕ). kept part (with_sp a (store part top byte p))) (lowered top) ∙
          ap (λ (t : ℕ). kept part (with_sp (minus t 1) (store part t byte p))) (c.sp-top.ensures part p h) ∙
          ap (λ (b : ℕ). kept part (pushed part b p)) (c.reg.ensures part p h),
      refl,
    )
