use Rattle.std.proofs.Common.{ap, ◌∙◌}
use Rattle.ice_inbox.specs.declared.inbox.View.{View}
use Rattle.ice_inbox.proofs.Posts.{begins, line_leaves, target_leaves}
use Rattle.ice_inbox.proofs.inbox.make_inbox.Goals as goal

pub bounded_with-requires-clause-rule : goal.bounded_with-requires-clause-rule
bounded_with-requires-clause-rule c = begins

pub another-line-requires-clause-rule : goal.another-line-requires-clause-rule
another-line-requires-clause-rule c =
    let whole = c.in_ok-end.ensures.3 in
    line_leaves _ _ (ap (λ (v : View). v.lines) whole) (ap (λ (v : View). v.sent) whole)

pub another-target-requires-clause-rule : goal.another-target-requires-clause-rule
another-target-requires-clause-rule c =
    let whole = c.in_ok-end.ensures.3 in
    let left = c.another-line.ensures.rule.0 in
    let targets = ap (λ (v : View). v.targets) left ∙ ap (λ (v : View). v.targets) whole in
    target_leaves _ _ targets (ap (λ (v : View). v.sent) left ∙ ap (λ (v : View). v.sent) whole)
