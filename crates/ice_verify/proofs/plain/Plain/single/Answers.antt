use Rattle.ice_verify.proofs.RunningOn.{stepped_yes, stepped_no}
use Rattle.std.proofs.Common.{sym, ap, ◌∙◌}
use Rattle.ice_verify.specs.declared.plain.Plain.{Plain}
use Rattle.ice_verify.proofs.plain.Plain.single.Goals as goal

pub returns-then-go-clause-steps : goal.returns-then-go-clause-steps
returns-then-go-clause-steps c = λ part p h.
    stepped_yes _ part p c.args.self.now.words.words c.go.new.self.core (sym c.if-go.true ∙ c.go.ensures.ahead part p h) (c.go.ensures.moves c.if-go.true part p h)

pub returns-clause-steps : goal.returns-clause-steps
returns-clause-steps c = λ part p h.
    stepped_no _ part p c.args.self.now.words.words c.go.new.self.core (sym c.if-go.false ∙ c.go.ensures.ahead part p h)
    (ap (λ (q : Plain). q.core) (c.go.ensures.stays c.if-go.false) ∙ h)
