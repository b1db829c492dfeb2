use Rattle.std.proofs.Common.{◌≡◌, ℕ, ◌+◌, true, false, sym, ap, ◌∙◌, subst, arith}
use Rattle.part_spec.specs.Chip.{chip_of}
use Rattle.avr_spec.specs.Kept.{kept}
use Rattle.avr_spec.specs.Step.{step}
use Rattle.ice_verify.specs.Going.{stop_in, RunsOn}
use Rattle.ice_verify.specs.declared.plain.Plain.{Plain}
use Rattle.ice_verify.proofs.RunningOn.{runs_more, stops_there}
use Rattle.ice_verify.proofs.plain.Plain.runs_on.Goals as goal

pub passes-requires : goal.passes-requires
passes-requires c = ap (λ (p : Plain). chip_of p.words.part) c.loop.invariant.rest ∙ c.requires ∙ sym c.loop.invariant.part

pub loop-preserved : goal.loop-preserved
loop-preserved c =
    let middle = c.loop.self in
    let now = c.passes.new.self in record {
      rest = c.passes.ensures.rest ∙ ap (λ (p : Plain). record p { core = now.core }) c.loop.invariant.rest;
      part = c.passes.ensures.part ∙ c.loop.invariant.part;
      runs = runs_more c.args.self.now middle now c.loop.counter (c.loop.counter + 1) (omega arith) c.loop.invariant.runs
          (λ part p h. (
            c.passes.ensures.goes c.if-not-passes.false part p h ∙
                ap (λ (q : Plain). kept part (step part p q.words.words)) c.loop.invariant.rest,
            ap (λ (q : Plain). stop_in part p q) (sym c.loop.invariant.rest) ∙ (c.passes.ensures.passes part p h).0 c.if-not-passes.false,
          ));
    }

pub returns-then-not-passes-clause-stops : goal.returns-then-not-passes-clause-stops
returns-then-not-passes-clause-stops c = λ no.
    stops_there c.args.self.now c.loop.self c.loop.counter c.args.steps (omega (arith, c.loop-test.true)) c.loop.invariant.runs
    (λ part p h none. no_way (sym c.if-not-passes.true ∙ (c.passes.ensures.passes part p h).1
    (ap (λ (q : Plain). stop_in part p q) c.loop.invariant.rest ∙ none)))
  where
    no_way : false ≡ true → ⊥
    no_way h = cc

pub returns-clause-goes : goal.returns-clause-goes
returns-clause-goes c = λ yes.
    let all : c.loop.counter ≡ c.args.steps = omega (arith, c.loop-test.false, c.loop.auto.counter-end) in
    subst (λ (k : ℕ). RunsOn c.args.self.now k c.loop.self) all c.loop.invariant.runs
