use Rattle.std.proofs.Common.{◌≡◌, ℕ, suc, ◌<◌, ◌+◌, ◌-◌, ◌%◌, ◌^◌, Bool, false, if◌then◌else◌, Some, None, inl, inr, refl, sym, ap, subst, ◌∙◌, arith}
use Rattle.std.proofs.lemmas.Bool.{false≢true}
use Rattle.avr_spec.specs.Machine.{Machine}
use Rattle.avr_spec.specs.Kept.{kept}
use Rattle.debug_spec.specs.Run.{after, natural_end}
use Rattle.run_control.specs.Runs.{Turns}
use Rattle.run_control.proofs.Boundaries.{goes_on, turns, counts_on, tells_on}
use Rattle.run_control.proofs.boundary.run_on.Goals as goal

pub boundaries-init : goal.boundaries-init
boundaries-init g c =
    let free = c.untested-free.result in
    let behind = c.args.budget - (free + (c.args.budget - free)) in
    let none : behind ≡ 0 = omega (arith, c.untested-free.ensures.some) in
    record {
      some = omega (arith, c.untested-free.ensures.some);
      within = omega (arith, c.untested-free.ensures.some);
      none_holds = c.untested-free.ensures.none_holds;
      part = refl;
      looks = omega (arith, none);
      yes = refl;
      mark = refl;
      made = λ part r e l s k.
          subst (λ (n : ℕ). (natural_end part r n ≡ None) × (c.args.core.now ≡ kept part (after part r (suc n)))) (sym none) (refl, e);
    }

pub returns-in-Some-clause-runs : goal.returns-in-Some-clause-runs
returns-in-Some-clause-runs g c =
    let was = c.boundaries.invariant in
    let told = c.look-told.ensures in
    let left = c.boundaries.free + c.boundaries.tested in
    let behind = c.args.budget - left in
    let turned = c.in-Some.ensures in
    record {
      quiet = behind;
      told = c.look-told.result;
      within = omega (arith, was.some, was.within);
      spent = λ n. let s = turned.spent (ap Some n) in (omega (arith, s.1, was.some, was.within), s.0);
      forced = λ n. turned.forced (ap Some n);
      looks = (
        (counts_on _ behind _ _ was.looks told.looks).0,
        (tells_on _ _ _ _ was.yes told.yes).0,
        told.last,
        told.mark ∙ was.mark,
      );
      run = λ part r e l s k.
          let made = was.made part r e l s k in
          let end = turns part behind (behind + 1) (omega arith) r c.boundaries.core c.turn_here.new.core (g.F.Flash.words c.args.flash.now)
          c.args.comparators.now c.look-told.result (left - 1) l s k made.0 made.1 c.in-Some.turn (turned.turns part) in
          (made.0, end.0, end.1);
    }

pub boundaries-preserved-then-free-eq0 : goal.boundaries-preserved-then-free-eq0
boundaries-preserved-then-free-eq0 g c =
    let was = c.boundaries.invariant in
    let told = c.look-told.ensures in
    let gone = c.in-None.ensures in
    let left = c.boundaries.free + c.boundaries.tested in
    let behind = c.args.budget - left in
    let next = c.args.budget - (c.boundaries.free + (c.boundaries.tested - 1)) in
    let one : behind + 1 ≡ next = omega (arith, was.some, was.within) in
    record {
      some = elim c.if-free-eq0.either [ inl on ↦ absurd (false≢true (sym gone.goes.0 ∙ on)) | inr both ↦ omega (arith, gone.goes.1, both.1) ];
      within = omega (arith, was.some, was.within);
      none_holds = was.none_holds;
      part = gone.part ∙ was.part;
      looks = (counts_on _ behind _ _ was.looks told.looks).1 ∙ ap (λ (n : ℕ). (g.L.StopLook.looks c.args.look.now + n) % 2 ^ 64) one;
      yes = (tells_on _ _ _ _ was.yes told.yes).1 (ap (λ (b : Bool). if b then 1 else 0) gone.goes.0);
      mark = told.mark ∙ was.mark;
      made = λ part r e l s k.
          let made = was.made part r e l s k in
          goes_on part behind next (omega (arith, one)) r c.boundaries.core c.turn_here.new.core (g.F.Flash.words c.args.flash.now)
          c.args.comparators.now c.look-told.result (left - 1) l s k made.0 made.1 (gone.turns part);
    }

pub returns-in-Some-step_on-clause-runs : goal.returns-in-Some-step_on-clause-runs
returns-in-Some-step_on-clause-runs g c =
    let was = c.boundaries.invariant in
    let told = c.look-told.ensures in
    let behind = c.args.budget - (c.boundaries.free + c.boundaries.tested) in
    let turned = c.in-Some-step_on.ensures in
    let some : 0 < c.boundaries.free = omega (arith, c.if-free-eq0.false.1) in
    record {
      quiet = behind;
      told = c.look-told.result;
      within = omega (arith, was.some, was.within);
      spent = λ n. absurd (turned.spent (ap Some n));
      forced = λ n. absurd (turned.forced (ap Some n));
      looks = (
        (counts_on _ behind _ _ was.looks told.looks).0,
        (tells_on _ _ _ _ was.yes told.yes).0,
        told.last,
        told.mark ∙ was.mark,
      );
      run = λ part r e l s k.
          let made = was.made part r e l s k in
          let end = turns part behind (behind + 1) (omega arith) r c.boundaries.core c.step_on.new.core (g.F.Flash.words c.args.flash.now)
          c.args.comparators.now c.look-told.result c.boundaries.free l s k made.0 made.1 c.in-Some-step_on.turn
          (λ (p : Machine) at. subst
          (λ (b : Bool). Turns part p (g.F.Flash.words c.args.flash.now) c.args.comparators.now b c.boundaries.free (Some c.in-Some-step_on.turn) c.step_on.new.core)
          (sym c.if-free-eq0.false.0) (turned.turns part p c.args.comparators.now c.boundaries.free at (was.none_holds some p.pc) some)) in
          (made.0, end.0, end.1);
    }

pub boundaries-preserved : goal.boundaries-preserved
boundaries-preserved g c =
    let was = c.boundaries.invariant in
    let told = c.look-told.ensures in
    let gone = c.in-None-step_on.ensures in
    let some : 0 < c.boundaries.free = omega (arith, c.if-free-eq0.false.1) in
    let behind = c.args.budget - (c.boundaries.free + c.boundaries.tested) in
    let next = c.args.budget - (c.boundaries.free - 1 + c.boundaries.tested) in
    let one : behind + 1 ≡ next = omega (arith, some, was.within) in
    record {
      some = was.some;
      within = omega (arith, was.within);
      none_holds = λ _. was.none_holds some;
      part = gone.part ∙ was.part;
      looks = (counts_on _ behind _ _ was.looks told.looks).1 ∙ ap (λ (n : ℕ). (g.L.StopLook.looks c.args.look.now + n) % 2 ^ 64) one;
      yes = (tells_on _ _ _ _ was.yes told.yes).1 (ap (λ (b : Bool). if b then 1 else 0) c.if-free-eq0.false.0);
      mark = told.mark ∙ was.mark;
      made = λ part r e l s k.
          let made = was.made part r e l s k in
          goes_on part behind next (omega (arith, one)) r c.boundaries.core c.step_on.new.core (g.F.Flash.words c.args.flash.now)
          c.args.comparators.now false c.boundaries.free l s k made.0 made.1
          (λ (p : Machine) at. gone.turns part p c.args.comparators.now c.boundaries.free at (was.none_holds some p.pc) some);
    }
