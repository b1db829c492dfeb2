use Rattle.std.proofs.Common.{sym, ◌∙◌}
use Rattle.ice_answer.proofs.Breaking.{comparator_cleared, comparator_not_there}
use Rattle.ice_answer.proofs.breakpoints.clear_comparator.Goals as goal

pub returns-then-not-is_set : goal.returns-then-not-is_set
returns-then-not-is_set c = λ tool core address.
    comparator_not_there tool core c.args.comparators.now c.args.frame address c.args.out.now.items c.refuse.new.out.items c.args.index
    (sym c.is_set.ensures.is ∙ c.if-not-is_set.true) c.refuse.ensures.sends

pub returns : goal.returns
returns c = λ tool core address.
    comparator_cleared tool core c.args.comparators.now c.args.frame address c.args.out.now.items c.okay.new.out.items c.args.index
    (sym c.is_set.ensures.is ∙ c.if-not-is_set.false) c.okay.ensures.sends
