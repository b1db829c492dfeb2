use Rattle.std.proofs.Common.{◌≡◌, ◌+◌, ◌*◌, ℕ, sym, ap, ◌∙◌, arith}
use Rattle.ice_frame.specs.Zeros.{over_zeros}
use Rattle.ice_frame.proofs.Linear.{over_no_zeros, over_zeros_sum}
use Rattle.ice_frame.proofs.behind.after_blocks.Goals as goal

pub loop-init : goal.loop-init
loop-init c = sym (over_no_zeros c.args.register)

pub loop-preserved : goal.loop-preserved
loop-preserved c =
    let more : c.loop.counter * 64 + 64 ≡ (c.loop.counter + 1) * 64 = omega arith in
    c.after_block-after.ensures ∙ ap (λ (r : ℕ). over_zeros 64 r) c.loop.invariant
    ∙ sym (over_zeros_sum (c.loop.counter * 64) 64 c.args.register)
    ∙ ap (λ (n : ℕ). over_zeros n c.args.register) more
