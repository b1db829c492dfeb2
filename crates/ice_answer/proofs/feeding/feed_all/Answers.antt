use Rattle.std.proofs.Common.{◌<◌, ℕ, Bool, List, length, ap, subst, arith, length-drop}
use Rattle.std.proofs.lemmas.List.{take_rest}
use Rattle.line_spec.specs.Frames.{IsPartial}
use Rattle.ice_recv.specs.Receiving.{Tells}
use Rattle.ice_answer.proofs.Fed.{FeedsOn, fed-more, takes_some}
use Rattle.ice_answer.proofs.feeding.feed_all.Goals as goal

pub feeds-smaller : goal.feeds-smaller
feeds-smaller c =
    let rest = take_rest c.args.bytes.now c.feeds.used in
    let partial : IsPartial c.feeds.receiver.held =
    subst (λ (b : Bool). Tells b c.feeds.receiver.held) c.if-not-waits.true c.waits.ensures in
    let some : 0 < c.feed-used-in-feeds.result =
    takes_some _ _ _ partial (omega (arith, c.feeds-test.true, ap length rest, length-drop c.feeds.used c.args.bytes.now))
    c.feed-used-in-feeds.ensures.none.0 in
    omega (arith, some, c.feeds-test.true)

pub feeds-preserved : goal.feeds-preserved
feeds-preserved c =
    let rest = take_rest c.args.bytes.now c.feeds.used in
    let feeds = subst (λ (t : List ℕ). FeedsOn c.feeds.receiver t c.feed-used-in-feeds.result c.feed-used-in-feeds.new.self) rest
    record {
      most = c.feed-used-in-feeds.ensures.most.0;
      none = c.feed-used-in-feeds.ensures.none.0;
      drops = c.feed-used-in-feeds.ensures.drops;
      first = c.feed-used-in-feeds.ensures.first;
    } in
    fed-more _ _ _ _ _ _ c.feeds.invariant feeds
