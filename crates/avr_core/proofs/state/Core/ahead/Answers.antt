use Rattle.std.proofs.Common.{◌≡◌, ℕ, sym, ap, ◌∙◌}
use Rattle.avr_spec.specs.declared.instruction.Instr.{Instr}
use Rattle.avr_spec.specs.Kept.{Kept}
use Rattle.avr_spec.specs.Decode.{decode}
use Rattle.avr_spec.specs.Step.{word_at, seen}
use Rattle.avr_spec.proofs.StepLemmas.{ahead_by, ahead-is}
use Rattle.avr_core.proofs.state.Core.ahead.Goals as goal

pub returns-in-Some : goal.returns-in-Some
returns-in-Some g c = λ part p h.
    let flash = g.F.Flash.words c.args.flash.now in
    sym (ahead-is part p flash ∙ ap (ahead_by p flash) (sym (c.in-Some.ensures.due part p h)))

pub returns-in-None : goal.returns-in-None
returns-in-None g c = λ part p h.
    let flash = g.F.Flash.words c.args.flash.now in
    let here : c.pc.result ≡ p.pc = c.pc.ensures.pc ∙ ap (λ (k : Kept). k.pc) h in
    let word : c.word.result ≡ word_at flash p.pc = c.word.ensures.word ∙ ap (λ (n : ℕ). word_at flash n) here in
    c.seen.ensures ∙
    ap (λ (i : Instr). seen i) (c.decode.ensures.value ∙ ap (λ (n : ℕ). decode n 0) word) ∙
    sym (ahead-is part p flash ∙ ap (ahead_by p flash) (sym (c.in-None.ensures.due part p h)))
