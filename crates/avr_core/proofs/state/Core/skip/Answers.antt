use Rattle.std.proofs.Common.{◌≡◌, ℕ, ◌+◌, ◌<◌, Bool, false, sym, ap, ◌∙◌, subst}
use Rattle.part_spec.specs.Chip.{words_of}
use Rattle.avr_spec.specs.Kept.{Kept, kept}
use Rattle.avr_core.specs.declared.outcome.Outcome.TheVariants.{Took}
use Rattle.avr_core.specs.Leaves.{past, passed}
use Rattle.avr_core.proofs.Passing.{past-none}
use Rattle.avr_core.proofs.state.Core.skip.Goals as goal

pub returns-else-over : goal.returns-else-over
returns-else-over g c = λ part p h.
    let flash = g.F.Flash.words c.args.flash.now in
    let here : c.pc-pc.result ≡ p.pc = c.pc-pc.ensures.pc ∙ ap (λ (k : Kept). k.pc) h in
    let in_flash = subst (λ (n : ℕ). n < words_of part) here (subst (λ (k : Kept). c.pc-pc.result < words_of k.part) h c.pc-pc.ensures.in_flash) in
    let stays : c.args.over ≡ false = c.if-over.false in (
      h ∙ past-none part p in_flash ∙
          ap (λ (o : Bool). kept part (past part (passed flash p o) p)) (sym stays),
      ap (λ (o : Bool). Took (1 + passed flash p o)) (sym stays),
    )
