use Rattle.std.proofs.Common.{◌≡◌, ◌+◌, ◌%◌, ap, ◌∙◌}
use Rattle.avr_spec.specs.Bytes.{low, high}
use Rattle.avr_spec.specs.Kept.{Kept}
use Rattle.avr_spec.specs.Memory.{store}
use Rattle.avr_core.proofs.Stacking.{pushing-is}
use Rattle.avr_core.proofs.state.Core.push_pc.Goals as goal

pub returns : goal.returns
returns c = λ part p h.
    let top = c.sp-top.result in
    let first = store part top c.low.result p in
    let both = store part ((top + 65535) % 65536) c.high.result first in
    let here : c.pc-pc.result ≡ p.pc = c.pc-pc.ensures.pc ∙ ap (λ (k : Kept). k.pc) h in
    c.set_sp.ensures part both (c.put_data-2.ensures part first (c.put_data.ensures part p h)) ∙
    pushing-is part p top c.low.result c.high.result (c.low.ensures ∙ ap low here) (c.high.ensures ∙ ap high here) (c.sp-top.ensures part p h)
