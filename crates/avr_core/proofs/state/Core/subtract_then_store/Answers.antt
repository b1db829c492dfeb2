use Rattle.std.proofs.Common.{◌≡◌, ℕ, ◌+◌, ◌%◌, refl, ap, ◌∙◌}
use Rattle.avr_spec.specs.Kept.{kept}
use Rattle.avr_spec.specs.Memory.{minus, reg, pair, store, with_pair}
use Rattle.avr_core.proofs.Stacking.{lowered}
use Rattle.avr_core.proofs.state.Core.subtract_then_store.Goals as goal

pub returns : goal.returns
returns c = λ part p h.
    let address = (c.pair-address.result + 65535) % 65536 in
    let is : address ≡ minus (pair p c.args.pointer) 1 =
    lowered c.pair-address.result ∙ ap (λ (a : ℕ). minus a 1) (c.pair-address.ensures part p h) in
    let moved = with_pair c.args.pointer address p in (
      c.put_data.ensures part moved (c.set_pair.ensures part p h) ∙
          ap (λ (b : ℕ). kept part (store part address b moved)) (c.reg-byte.ensures part p h) ∙
          ap (λ (a : ℕ). kept part (store part a (reg p c.args.r) (with_pair c.args.pointer a p))) is,
      refl,
    )
