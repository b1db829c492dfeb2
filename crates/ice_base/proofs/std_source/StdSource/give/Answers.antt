use Rattle.std.proofs.Common.{rules, ◌≤◌, ◌+◌, drop, ap, ◌∙◌}
use Rattle.ice_base.proofs.Lists.{drop_between}
use Rattle.ice_base.proofs.std_source.StdSource.give.Goals as goal

pub returns-clause-ahead : goal.returns-clause-ahead
returns-clause-ahead g c =
    let inside = c.self.inside in
    let count = c.min-count.result in
    let within : inside.start + count ≤ inside.end = search rules in
    drop_between inside.ahead inside.start inside.end count within ∙ ap (λ s. drop count s.1) c.self.view_is
