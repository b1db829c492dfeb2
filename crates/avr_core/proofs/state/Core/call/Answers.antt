use Rattle.std.proofs.Common.{ℕ, ◌%◌, refl, ap, ◌∙◌}
use Rattle.part_spec.specs.Chip.{words_of}
use Rattle.avr_spec.specs.Kept.{kept}
use Rattle.avr_spec.specs.Effect.{called}
use Rattle.avr_core.specs.Leaves.{past}
use Rattle.avr_core.proofs.state.Core.call.Goals as goal

pub returns : goal.returns
returns g c = λ part p h. (
  c.enter.ensures part (past part 1 p) (c.target-target.ensures.past part p h) ∙
      ap (λ (a : ℕ). kept part (called part (a % words_of part) (past part 1 p))) (c.target-target.ensures.target part p h),
  refl,
)
