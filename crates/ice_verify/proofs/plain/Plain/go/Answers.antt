use Rattle.std.proofs.Common.{sym, ap, ◌∙◌}
use Rattle.avr_spec.specs.declared.target.Ahead.{Ahead}
use Rattle.avr_spec.specs.Machine.{Machine}
use Rattle.avr_spec.specs.Kept.{kept}
use Rattle.avr_spec.specs.Step.{go_by}
use Rattle.avr_spec.proofs.StepLemmas.{go-is}
use Rattle.ice_verify.proofs.plain.Plain.go.Goals as goal

pub returns-in-Interrupt-clause-moves : goal.returns-in-Interrupt-clause-moves
returns-in-Interrupt-clause-moves c = λ t part p h.
    let flash = c.args.self.now.words.words in
    c.step.ensures.moves part p h ∙ ap (λ (a : Ahead). kept part (go_by part p flash a)) (c.in-Interrupt.ensures part p h) ∙
    ap (λ (q : Machine). kept part q) (sym (go-is part p flash))

pub returns-in-Ready-clause-moves : goal.returns-in-Ready-clause-moves
returns-in-Ready-clause-moves c = λ t part p h.
    let flash = c.args.self.now.words.words in
    c.step-in-Ready.ensures.moves part p h ∙ ap (λ (a : Ahead). kept part (go_by part p flash a)) (c.in-Ready.ensures part p h) ∙
    ap (λ (q : Machine). kept part q) (sym (go-is part p flash))
