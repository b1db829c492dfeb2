use Rattle.std.proofs.Common.{◌≡◌, ℕ, ◌+◌, ◌%◌, ap, ◌∙◌}
use Rattle.avr_spec.specs.Kept.{kept}
use Rattle.avr_spec.specs.Memory.{minus, pair, with_loaded, with_pair}
use Rattle.avr_core.proofs.Stacking.{lowered}
use Rattle.avr_core.proofs.state.Core.subtract_then_load.Goals as goal

pub returns : goal.returns
returns c = λ part p h.
    let address = (c.pair-address.result + 65535) % 65536 in
    let is : address ≡ minus (pair p c.args.pointer) 1 =
    lowered c.pair-address.result ∙ ap (λ (a : ℕ). minus a 1) (c.pair-address.ensures part p h) in
    let done = c.load_to.ensures part (with_pair c.args.pointer address p) (c.set_pair.ensures part p h) in
    (done.0 ∙ ap (λ (a : ℕ). kept part (with_loaded part c.args.d a (with_pair c.args.pointer a p))) is, done.1)
