use Rattle.std.proofs.Common.{◌++◌, ◌+◌, ◌-◌, ◌<◌, ℕ, List, length, take, drop, subst, ap, length-take, arith}
use Rattle.ice_recv.specs.Receiving.{Waits}
use Rattle.host_session.specs.Hearing.{HandsNext, pending_of}
use Rattle.host_session.proofs.Arrivals.{hands_part}
use Rattle.host_session.proofs.inbox.Inbox.next_frame.Goals as goal

pub returns-clause-hands : goal.returns-clause-hands
returns-clause-hands c =
    let s = c.self.inside in
    let size = length-take (s.to - s.from) (drop s.from s.chunk) in
    let all : c.feed-fed.result < length c.part.result.now → Waits c.feed-fed.new.self.held =
    λ less. c.feed-fed.ensures.all less (omega (arith, less, ap length c.part.ensures, size, c.self.invariant)) in
    let hands = hands_part s.receiver.held s.chunk _ s.from s.to _ _ _ _ c.next.result c.part.ensures c.feed-fed.ensures.most.0
    c.feed-fed.ensures.drops all c.next.ensures in
    let after : List ℕ = c.next.new.self.held ++ take (s.to - (s.from + c.feed-fed.result)) (drop (s.from + c.feed-fed.result) s.chunk) in
    subst (λ (t : List ℕ). HandsNext t c.next.result after) (ap pending_of c.self.view_is) hands.0

pub returns-clause-all : goal.returns-clause-all
returns-clause-all c =
    let s = c.self.inside in
    let size = length-take (s.to - s.from) (drop s.from s.chunk) in
    let all : c.feed-fed.result < length c.part.result.now → Waits c.feed-fed.new.self.held =
    λ less. c.feed-fed.ensures.all less (omega (arith, less, ap length c.part.ensures, size, c.self.invariant)) in
    let hands = hands_part s.receiver.held s.chunk _ s.from s.to _ _ _ _ c.next.result c.part.ensures c.feed-fed.ensures.most.0
    c.feed-fed.ensures.drops all c.next.ensures in
    hands.1
