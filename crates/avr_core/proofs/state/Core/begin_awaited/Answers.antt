use Rattle.std.proofs.Common.{◌≡◌, ℕ, Bool, Option, is_some, ap, ◌∙◌}
use Rattle.avr_spec.specs.declared.instruction.Instr.{Instr}
use Rattle.avr_spec.specs.declared.target.Ahead.{Ahead}
use Rattle.avr_spec.specs.declared.target.Vector.{Vector}
use Rattle.avr_spec.specs.Decode.{decode}
use Rattle.avr_spec.specs.Kept.{Kept, kept}
use Rattle.avr_spec.specs.Step.{word_at, seen}
use Rattle.avr_core.specs.Begins.{held_by, begun_by}
use Rattle.avr_core.proofs.state.Core.begin_awaited.Goals as goal

pub returns-in-None-clause-moves : goal.returns-in-None-clause-moves
returns-in-None-clause-moves g c = λ part p h.
    let flash = g.F.Flash.words c.args.flash.now in
    let here : c.pc.result ≡ p.pc = c.pc.ensures.pc ∙ ap (λ (k : Kept). k.pc) h in
    let word : c.word.result ≡ word_at flash p.pc = c.word.ensures.word ∙ ap (λ (n : ℕ). word_at flash n) here in
    let ahead : c.seen-ahead.result ≡ seen (decode (word_at flash p.pc) 0) =
    c.seen-ahead.ensures ∙ ap (λ (i : Instr). seen i) (c.decode.ensures.value ∙ ap (λ (n : ℕ). decode n 0) word) in
    c.set_hold.ensures part p h ∙
    ap (λ (b : Bool). kept part (record p { hold = b }))
    (c.held_by-hold.ensures ∙ ap (λ (b : Bool). held_by b c.seen-ahead.result) (c.is_held.ensures ∙ ap (λ (k : Kept). k.hold) h) ∙
    ap (λ (a : Ahead). held_by p.hold a) ahead) ∙
    ap (λ (d : Option Vector). kept part (begun_by part flash p d)) (c.in-None.ensures.due part p h)

pub returns-in-Some-clause-moves : goal.returns-in-Some-clause-moves
returns-in-Some-clause-moves g c = λ part p h.
    let flash = g.F.Flash.words c.args.flash.now in
    c.take.ensures part p h ∙ ap (λ (d : Option Vector). kept part (begun_by part flash p d)) (c.in-Some.ensures.due part p h)

pub returns-in-Some-clause-took : goal.returns-in-Some-clause-took
returns-in-Some-clause-took g c = λ part p h. ap (λ (d : Option Vector). is_some d) (c.in-Some.ensures.due part p h)
