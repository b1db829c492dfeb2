use Rattle.std.proofs.Common.{◌≡◌, suc, ◌-◌, true, false, not, Bool, refl, sym, ◌∙◌, arith}
use Rattle.part_spec.specs.Chip.{chip_of}
use Rattle.ice_answer.specs.Values.{why_of}
use Rattle.ice_verify.proofs.RunsTo.{early_comes, early_not, stopped_before, stands_there, comes_there, not_there}
use Rattle.ice_verify.proofs.plain.Plain.runs_to.Goals as goal

no_way : false ≡ true → ⊥
no_way h = cc

runs : (b : Bool) → true ≡ not b → b ≡ false
runs true h = cc
runs false h = refl

pub returns-then-steps-eq0-clause-comes : goal.returns-then-steps-eq0-clause-comes
returns-then-steps-eq0-clause-comes c = λ yes part sent s e out good.
    early_comes part sent s c.args.self.now c.requires.ready e c.args.steps (why_of c.args.cause) c.if-steps-eq0.true out
    ((c.ends_at_once.ensures (chip_of part) s.machine e.core).0 yes)

pub returns-then-steps-eq0-clause-not : goal.returns-then-steps-eq0-clause-not
returns-then-steps-eq0-clause-not c = λ none part sent s e out good.
    early_not part sent s c.args.self.now c.requires.ready e c.args.steps (why_of c.args.cause) c.if-steps-eq0.true good
    (λ h. no_way (sym none ∙ (c.ends_at_once.ensures (chip_of part) s.machine e.core).1 h))

pub returns-then-not-runs_on-clause-not : goal.returns-then-not-runs_on-clause-not
returns-then-not-runs_on-clause-not c = λ none part sent s e out good.
    stopped_before part sent s c.args.self.now c.requires.ready e c.go.new.self c.args.steps (c.args.steps - 1) (why_of c.args.cause)
    (omega (arith, c.if-steps-eq0.false)) good
    (runs _ (sym c.if-not-go.false ∙ c.go.ensures.ahead (chip_of part) s.machine e.core)) c.go.ensures.rest
    (c.go.ensures.moves c.if-not-go.false (chip_of part) s.machine e.core) (c.runs_on.ensures.stops c.if-not-runs_on.true)

pub returns-clause-comes : goal.returns-clause-comes
returns-clause-comes c = λ yes part sent s e out good.
    let count : c.args.steps ≡ suc (c.args.steps - 1) = omega (arith, c.if-steps-eq0.false) in
    let u = runs _ (sym c.if-not-go.false ∙ c.go.ensures.ahead (chip_of part) s.machine e.core) in
    let gone = c.go.ensures.moves c.if-not-go.false (chip_of part) s.machine e.core in
    let on = c.runs_on.ensures.goes c.if-not-runs_on.false in
    let stands = stands_there part sent s c.args.self.now c.requires.ready e c.go.new.self c.args.steps (c.args.steps - 1) (why_of c.args.cause) count
    good u c.go.ensures.rest gone c.runs_on.new.self c.runs_on.ensures.rest on in
    comes_there part sent s c.args.self.now c.requires.ready e c.go.new.self c.args.steps (c.args.steps - 1) (why_of c.args.cause) count good u
    c.go.ensures.rest gone c.runs_on.new.self c.runs_on.ensures.rest on out ((c.may_stop.ensures (chip_of part) _ stands).0 yes)

pub returns-clause-not : goal.returns-clause-not
returns-clause-not c = λ none part sent s e out good.
    let count : c.args.steps ≡ suc (c.args.steps - 1) = omega (arith, c.if-steps-eq0.false) in
    let u = runs _ (sym c.if-not-go.false ∙ c.go.ensures.ahead (chip_of part) s.machine e.core) in
    let gone = c.go.ensures.moves c.if-not-go.false (chip_of part) s.machine e.core in
    let on = c.runs_on.ensures.goes c.if-not-runs_on.false in
    let stands = stands_there part sent s c.args.self.now c.requires.ready e c.go.new.self c.args.steps (c.args.steps - 1) (why_of c.args.cause) count
    good u c.go.ensures.rest gone c.runs_on.new.self c.runs_on.ensures.rest on in
    not_there part sent s c.args.self.now c.requires.ready e c.go.new.self c.args.steps (c.args.steps - 1) (why_of c.args.cause) count good u
    c.go.ensures.rest gone c.runs_on.new.self c.runs_on.ensures.rest on
    (λ h. no_way (sym none ∙ (c.may_stop.ensures (chip_of part) _ stands).1 h))
