use Rattle.std.proofs.Common.{ℕ, List, insert, sym, ◌∙◌, ap, subst, arith}
use Rattle.debug_spec.specs.Breakpoints.{inserted}
use Rattle.flash_patch.specs.State.{IsRising}
use Rattle.flash_patch.proofs.Rising.{inserted-there, rises-inserted}
use Rattle.flash_patch.proofs.plan.Plan.insert.Goals as goal

pub returns-then-has-clause-set : goal.returns-then-has-clause-set
returns-then-has-clause-set c =
    let plan = c.args.self.now in
    let there = sym c.has.ensures.has ∙ c.if-has.true in
    ap (λ (soft : List ℕ). record { part = plan.part; prog = plan.prog; soft = soft })
    (sym (inserted-there 0 c.args.address plan.soft c.has.ensures.rising there))

pub invariant_of-self : goal.invariant_of-self
invariant_of-self c =
    let soft = c.self.inside.soft.items in
    let now = c.insert.ensures.items ∙
    sym (ap (λ (s : List ℕ). insert s c.place_of-place.result c.args.address) c.as_slice.ensures.value) ∙
    sym c.place_of-place.ensures.place ∙ ap (inserted c.args.address) c.as_slice.ensures.value in (
      c.self.invariant.0,
      subst IsRising (sym now) (rises-inserted 0 c.args.address soft (omega arith) c.self.invariant.1),
    )
