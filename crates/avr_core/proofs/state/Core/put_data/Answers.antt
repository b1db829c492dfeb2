use Rattle.std.proofs.Common.{◌≡◌, ◌<◌, ◌≤◌, sym, ap, ◌∙◌, arith}
use Rattle.avr_spec.specs.Machine.{Machine, sram_start}
use Rattle.avr_spec.specs.Kept.{Kept, kept}
use Rattle.avr_core.proofs.DataSpace.{store-sram, store-behind}
use Rattle.avr_core.proofs.state.Core.put_data.Goals as goal

pub returns-then-address-sram_end : goal.returns-then-address-sram_end
returns-then-address-sram_end c = λ part p h.
    let address = c.args.address in
    let end : c.sram_end.result ≡ part.sram_end = c.sram_end.ensures ∙ ap (λ (k : Kept). k.part.sram_end) h in
    let high : sram_start ≤ address = omega (arith, c.if-address-lt-SRAM_START.false) in
    let inside : address < part.sram_end = omega (arith, c.if-address-sram_end.true, end) in
    c.set_sram_byte.ensures part p h ∙ ap (λ (q : Machine). kept part q) (sym (store-sram part address p high c.args.v inside))

pub returns-else-address-sram_end : goal.returns-else-address-sram_end
returns-else-address-sram_end c = λ part p h.
    let address = c.args.address in
    let end : c.sram_end.result ≡ part.sram_end = c.sram_end.ensures ∙ ap (λ (k : Kept). k.part.sram_end) h in
    let high : sram_start ≤ address = omega (arith, c.if-address-lt-SRAM_START.false) in
    let behind : part.sram_end ≤ address = omega (arith, c.if-address-sram_end.false, end) in
    h ∙ ap (λ (q : Machine). kept part q) (sym (store-behind part address p high c.args.v behind))
