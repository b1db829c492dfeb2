use Rattle.std.proofs.Common.{◌≡◌, ◌<◌, ◌≤◌, sym, ap, ◌∙◌, arith}
use Rattle.avr_spec.specs.Machine.{sram_start}
use Rattle.avr_spec.specs.Kept.{Kept}
use Rattle.avr_core.proofs.DataSpace.{load-sram}
use Rattle.avr_core.proofs.state.Core.data_at.Goals as goal

pub returns-then-address-sram_end : goal.returns-then-address-sram_end
returns-then-address-sram_end c = λ part p h.
    let address = c.args.address in
    let end : c.sram_end.result ≡ part.sram_end = c.sram_end.ensures ∙ ap (λ (k : Kept). k.part.sram_end) h in
    let high : sram_start ≤ address = omega (arith, c.if-address-lt-SRAM_START.false) in
    let inside : address < part.sram_end = omega (arith, c.if-address-sram_end.true, end) in
    c.sram_byte.ensures part p h ∙ sym (load-sram part address p high inside)
