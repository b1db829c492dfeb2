use Rattle.std.proofs.Common.{None, Some, List, ℕ, refl, subst}
use Rattle.ice_verify.specs.Checking.{Says}
use Rattle.record_check.proofs.Taken.{line_judged, line_passed}
use Rattle.record_check.proofs.checker.Checker.take_line.Goals as goal

pub returns-in-None-clause-takes : goal.returns-in-None-clause-takes
returns-in-None-clause-takes c = λ part prog taken h.
    line_passed part prog taken c.args.self.now h _
    (subst (λ (l : List ℕ). Says part h.at l None c.line.new.self) c.as_slice.ensures.value (c.in-None.ensures.says part h.at h.stands))
    c.clear.ensures refl

pub returns-in-Some-clause-takes : goal.returns-in-Some-clause-takes
returns-in-Some-clause-takes c = λ part prog taken h.
    line_judged part prog taken c.args.self.now h c.in-Some.verdict c.line.new.self
    (subst (λ (l : List ℕ). Says part h.at l (Some c.in-Some.verdict) c.line.new.self) c.as_slice.ensures.value
    (c.in-Some.ensures.says part h.at h.stands))
