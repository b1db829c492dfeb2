use Rattle.std.proofs.Common.{ℕ, ap, ◌∙◌}
use Rattle.avr_spec.specs.Kept.{kept}
use Rattle.avr_spec.specs.Memory.{reg, store}
use Rattle.avr_core.specs.Leaves.{past}
use Rattle.avr_core.proofs.state.Core.sts.Goals as goal

pub returns : goal.returns
returns g c = λ part p h.
    let done = c.store_from.ensures part (past part 1 p) (c.next_word-address.ensures.past part p h) in
    (done.0 ∙ ap (λ (a : ℕ). kept part (store part a (reg p c.args.r) (past part 1 p))) (c.next_word-address.ensures.word part p h), done.1)
