use Rattle.std.proofs.Common.{sym, ap, ◌∙◌}
use Rattle.avr_spec.specs.Machine.{Machine}
use Rattle.avr_spec.specs.Kept.{Kept, kept}
use Rattle.avr_spec.specs.Step.{advanced, go_by}
use Rattle.avr_spec.proofs.StepLemmas.{go-is}
use Rattle.avr_core.proofs.state.Core.skip_break.Goals as goal

pub returns-clause-moves : goal.returns-clause-moves
returns-clause-moves g c = λ part p h.
    let flash = g.F.Flash.words c.args.flash.now in
    c.end.ensures part (advanced part 1 p) (c.advance.ensures part p h) ∙
    ap (λ (s : Machine). kept part s) (sym (go-is part p flash ∙ ap (go_by part p flash) (c.requires.ahead part p h)))

pub returns-clause-part : goal.returns-clause-part
returns-clause-part g c =
    let some = c.stands_for_a_state.ensures in
    let part = c.args.self.now.part in
    ap (λ (k : Kept). k.part) (c.end.ensures part (advanced part 1 some.state) (c.advance.ensures part some.state some.is))
