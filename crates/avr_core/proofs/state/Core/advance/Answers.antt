use Rattle.std.proofs.Common.{ℕ, ◌+◌, ◌%◌, false, ap, ◌∙◌}
use Rattle.part_spec.specs.Chip.{words_of}
use Rattle.avr_spec.specs.Kept.{Kept, kept}
use Rattle.avr_spec.specs.Effect.{with_pc}
use Rattle.avr_core.proofs.state.Core.advance.Goals as goal

pub returns : goal.returns
returns c = λ part p h.
    let here = c.pc-pc.ensures.pc ∙ ap (λ (k : Kept). k.pc) h in
    c.set_hold.ensures part (with_pc ((c.from.result + 1) % words_of part) p) (c.go_to.ensures part p h) ∙
    ap (λ (n : ℕ). kept part (record p { pc = (n + 1) % words_of part; hold = false })) (c.from.ensures ∙ here)
