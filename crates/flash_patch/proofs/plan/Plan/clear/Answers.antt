use Rattle.std.proofs.Common.{sym, ◌∙◌, ap, subst}
use Rattle.debug_spec.specs.Patch.{without}
use Rattle.flash_patch.specs.State.{IsRising}
use Rattle.flash_patch.proofs.Rising.{rises-without}
use Rattle.flash_patch.proofs.plan.Plan.clear.Goals as goal

pub invariant_of-self : goal.invariant_of-self
invariant_of-self c = (
  c.self.invariant.0,
  subst IsRising (sym (c.without-self-inside.ensures ∙ ap (without c.args.address) c.as_slice-2.ensures.value))
      (rises-without 0 c.args.address c.self.inside.soft.items c.self.invariant.1),
)
