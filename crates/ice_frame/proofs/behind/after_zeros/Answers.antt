use Rattle.std.proofs.Common.{ℕ, sym, ap, ◌∙◌}
use Rattle.line_spec.specs.Check.{checked}
use Rattle.ice_frame.specs.Zeros.{over_zeros}
use Rattle.ice_frame.proofs.Linear.{over_no_zeros, over_zeros_one, over_zeros_sum}
use Rattle.ice_frame.proofs.behind.after_zeros.Goals as goal

pub loop-init : goal.loop-init
loop-init c = sym (over_no_zeros c.args.register)

pub loop-preserved : goal.loop-preserved
loop-preserved c =
    c.crc_with-after.ensures ∙ ap (λ (r : ℕ). checked r 0) c.loop.invariant
    ∙ sym (over_zeros_one (over_zeros c.loop.counter c.args.register))
    ∙ sym (over_zeros_sum c.loop.counter 1 c.args.register)
