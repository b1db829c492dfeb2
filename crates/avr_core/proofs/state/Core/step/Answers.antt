use Rattle.std.proofs.Common.{◌≡◌, ◌≢◌, ℕ, Bool, false, List, is_some, sym, ap, ◌∙◌}
use Rattle.part_spec.specs.Chip.{Chip}
use Rattle.avr_spec.specs.declared.target.Ahead.{Ahead}
use Rattle.avr_spec.specs.declared.target.Ahead.TheVariants.{Ready}
use Rattle.avr_spec.specs.Decode.{decode}
use Rattle.avr_spec.specs.Machine.{Machine}
use Rattle.avr_spec.specs.Kept.{Kept, kept}
use Rattle.avr_spec.specs.Step.{word_at, due, seen}
use Rattle.avr_spec.proofs.StepLemmas.{step-is, ahead-is}
use Rattle.avr_core.specs.Answer.{answer_of}
use Rattle.avr_core.specs.Begins.{unheld, begun_by}
use Rattle.avr_core.proofs.Beginning.{held_by-on, held_by-stays, taken-begun, unheld-begun, executed-stepped, taken-ahead, seen-ahead, executed-unheld}
use Rattle.avr_core.proofs.state.Core.step.Given as given
use Rattle.avr_core.proofs.state.Core.step.Goals as goal

pub returns-then-begin-clause-state : goal.returns-then-begin-clause-state
returns-then-begin-clause-state g c = λ part p h.
    let flash = g.F.Flash.words c.args.flash.now in
    let took = sym (c.begin.ensures.took part p h) ∙ c.if-begin.true in
    c.begin.ensures.moves part p h ∙ ap (λ (s : Machine). kept part s) (taken-begun part flash p (due part p) took ∙ sym (step-is part p flash))

pub returns-then-begin-clause-answer : goal.returns-then-begin-clause-answer
returns-then-begin-clause-answer g c = λ part p h.
    let flash = g.F.Flash.words c.args.flash.now in
    let took = sym (c.begin.ensures.took part p h) ∙ c.if-begin.true in
    ap (λ (a : Ahead). answer_of a) (taken-ahead flash p (due part p) took ∙ sym (ahead-is part p flash))

pub returns-then-begin-clause-part : goal.returns-then-begin-clause-part
returns-then-begin-clause-part g c =
    let some = c.stands_for_a_state.ensures in ap (λ (k : Kept). k.part) (c.begin.ensures.moves c.args.self.now.part some.state some.is)

-- behind a beginning that took no interrupt
went_on : (part : Chip) (flash : List ℕ) (p : Machine) (after : Kept) (took : Bool) → took ≡ is_some (due part p) → took ≡ false →
    after ≡ kept part (begun_by part flash p (due part p)) → after ≡ kept part (unheld flash p)
went_on part flash p after took told none begun =
    begun ∙ ap (λ (s : Machine). kept part s) (unheld-begun part flash p (due part p) (sym told ∙ none))

pub execute-requires-clause-part : goal.execute-requires-clause-part
execute-requires-clause-part g c =
    let some = c.stands_for_a_state.ensures in
    c.requires ∙ sym (ap (λ (k : Kept). k.part) (c.begin.ensures.moves c.args.self.now.part some.state some.is))

pub execute-requires-clause-unheld : goal.execute-requires-clause-unheld
execute-requires-clause-unheld g c = λ on ready.
    let flash = g.F.Flash.words c.args.flash.now in
    let some = c.stands_for_a_state.ensures in
    let part = c.args.self.now.part in
    let p = some.state in
    let took = c.begin.ensures.took part p some.is in
    let went = went_on part flash p c.begin.new.self c.begin.result took c.if-begin.false (c.begin.ensures.moves part p some.is) in
    held_by-on p.hold (seen (decode (word_at flash p.pc) 0)) (sym (ap (λ (k : Kept). k.hold) went) ∙ on)
    (sym (ap (λ (k : Kept). seen (decode (word_at flash k.pc) 0)) went) ∙ ready)

module _ (g : given.Over) (c : goal.After-execute g) (part : Chip) (p : Machine) (h : c.args.self.now ≡ kept part p) where
  none : is_some (due part p) ≡ false
  none = sym (c.begin.ensures.took part p h) ∙ c.if-begin.false

  went : c.begin.new.self ≡ kept part (unheld (g.F.Flash.words c.args.flash.now) p)
  went =
      went_on part (g.F.Flash.words c.args.flash.now) p c.begin.new.self c.begin.result (c.begin.ensures.took part p h) c.if-begin.false
      (c.begin.ensures.moves part p h)

pub returns-clause-state : goal.returns-clause-state
returns-clause-state g c = λ part p h.
    let flash = g.F.Flash.words c.args.flash.now in
    c.execute.ensures.state part (unheld flash p) (went g c part p h) ∙
    ap (λ (s : Machine). kept part s)
    (executed-unheld part p flash ∙ executed-stepped part flash p (due part p) (none g c part p h) ∙ sym (step-is part p flash))

pub returns-clause-answer : goal.returns-clause-answer
returns-clause-answer g c = λ part p h.
    let flash = g.F.Flash.words c.args.flash.now in
    c.execute.ensures.answer part (unheld flash p) (went g c part p h) ∙
    ap (λ (a : Ahead). answer_of a) (seen-ahead flash p (due part p) (none g c part p h) ∙ sym (ahead-is part p flash))

pub returns-clause-stays : goal.returns-clause-stays
returns-clause-stays g c = λ stopped.
    let flash = g.F.Flash.words c.args.flash.now in
    let some = c.stands_for_a_state.ensures in
    let part = c.args.self.now.part in
    let p = some.state in
    let behind = went g c part p some.is in
    let stops : seen (decode (word_at flash p.pc) 0) ≢ Ready =
    λ ready. stopped (c.execute.ensures.answer part (unheld flash p) behind ∙ ap (λ (a : Ahead). answer_of a) ready) in
    c.execute.ensures.stays stopped ∙ behind ∙
    ap (λ (b : Bool). kept part (record p { hold = b })) (held_by-stays p.hold (seen (decode (word_at flash p.pc) 0)) stops) ∙ sym some.is

pub returns-clause-part : goal.returns-clause-part
returns-clause-part g c =
    let some = c.stands_for_a_state.ensures in
    let part = c.args.self.now.part in
    ap (λ (k : Kept). k.part)
    (c.execute.ensures.state part (unheld (g.F.Flash.words c.args.flash.now) some.state) (went g c part some.state some.is))
