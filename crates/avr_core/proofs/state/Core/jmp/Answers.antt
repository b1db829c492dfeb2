use Rattle.std.proofs.Common.{ℕ, ◌%◌, refl, ap, ◌∙◌}
use Rattle.part_spec.specs.Chip.{words_of}
use Rattle.avr_spec.specs.Kept.{kept}
use Rattle.avr_spec.specs.Effect.{with_pc}
use Rattle.avr_core.specs.Leaves.{past}
use Rattle.avr_core.proofs.state.Core.jmp.Goals as goal

pub returns : goal.returns
returns g c = λ part p h. (
  c.go_to.ensures part (past part 1 p) (c.target-target.ensures.past part p h) ∙
      ap (λ (a : ℕ). kept part (with_pc (a % words_of part) (past part 1 p))) (c.target-target.ensures.target part p h),
  refl,
)
