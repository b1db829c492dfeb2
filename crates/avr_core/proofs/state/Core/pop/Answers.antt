use Rattle.std.proofs.Common.{ℕ, refl, ap, ◌∙◌}
use Rattle.avr_spec.specs.Kept.{kept}
use Rattle.avr_spec.specs.Memory.{plus, with_reg, with_loaded, with_sp}
use Rattle.avr_core.proofs.state.Core.pop.Goals as goal

pub returns : goal.returns
returns c = λ part p h.
    let top = plus c.sp-top.result 1 in
    let raised = c.set_sp.ensures part p h in (
      c.set_reg.ensures part (with_sp top p) raised ∙
          ap (λ (b : ℕ). kept part (with_reg c.args.d b (with_sp top p))) (c.data_at.ensures part (with_sp top p) raised) ∙
          ap (λ (t : ℕ). kept part (with_loaded part c.args.d (plus t 1) (with_sp (plus t 1) p))) (c.sp-top.ensures part p h),
      refl,
    )
