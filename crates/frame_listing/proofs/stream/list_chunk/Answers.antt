use Rattle.std.proofs.Common.{◌+◌, Bool, Some, subst, arith}
use Rattle.frame_listing.specs.Steps.{NextLists}
use Rattle.frame_listing.proofs.Chunking.{going_start, fed, fed_counts, all_fed, listed_more, listed_front, listed_whole}
use Rattle.frame_listing.proofs.stream.list_chunk.Goals as goal

pub frames-init : goal.frames-init
frames-init g c = record {
  within = omega arith;
  behind = c.requires.behind;
  counts = omega arith;
  faults = omega arith;
  going = going_start c.args.receiver.now c.args.listed.now c.args.chunk.now (g.K.Sink.written c.args.sink.now) (g.K.Sink.faults c.args.sink.now);
}

pub list_next-requires-clause-behind : goal.list_next-requires-clause-behind
list_next-requires-clause-behind g c =
    let moved = fed_counts c.frames.receiver c.split_at.result.1.now c.feed-used.result c.feed-used.new.self c.feed-used.ensures.most.0
    (omega (arith, c.requires.few, c.frames.invariant.counts, c.frames.invariant.within, c.split_at.ensures.back_len)) c.feed-used.ensures.drops in
    omega (arith, c.frames.invariant.behind, moved.0)

pub list_next-requires-clause-few : goal.list_next-requires-clause-few
list_next-requires-clause-few g c =
    let moved = fed_counts c.frames.receiver c.split_at.result.1.now c.feed-used.result c.feed-used.new.self c.feed-used.ensures.most.0
    (omega (arith, c.requires.few, c.frames.invariant.counts, c.frames.invariant.within, c.split_at.ensures.back_len)) c.feed-used.ensures.drops in
    omega (arith, c.requires.few, c.frames.invariant.counts, c.frames.invariant.within, c.feed-used.ensures.most.0, c.split_at.ensures.back_len, moved.1)

pub frames-preserved : goal.frames-preserved
frames-preserved g c =
    let moved = fed_counts c.frames.receiver c.split_at.result.1.now c.feed-used.result c.feed-used.new.self c.feed-used.ensures.most.0
    (omega (arith, c.requires.few, c.frames.invariant.counts, c.frames.invariant.within, c.split_at.ensures.back_len)) c.feed-used.ensures.drops in
    record {
      within = omega (arith, c.frames.invariant.within, c.feed-used.ensures.most.0, c.split_at.ensures.back_len);
      behind = c.list_next.ensures.behind;
      counts = omega (arith, c.frames.invariant.counts, moved.1, c.list_next.ensures.counts);
      faults = omega (arith, c.frames.invariant.faults, c.list_next.ensures.faults);
      going = listed_more c.args.receiver.now c.args.listed.now c.args.chunk.now (c.frames.used + c.feed-used.result) c.feed-used.new.self c.frames.listed
          (g.K.Sink.written c.args.sink.now) (g.K.Sink.written c.frames.sink) (g.K.Sink.faults c.args.sink.now) (g.K.Sink.faults c.frames.sink)
          (fed c.args.receiver.now c.args.listed.now c.args.chunk.now c.frames.used c.frames.receiver c.frames.listed
          (g.K.Sink.written c.args.sink.now) (g.K.Sink.written c.frames.sink) (g.K.Sink.faults c.args.sink.now) (g.K.Sink.faults c.frames.sink)
          c.frames.invariant.going c.split_at.result.1.now c.feed-used.result c.feed-used.new.self c.split_at.ensures.back c.feed-used.ensures.most.0
          c.frames.invariant.behind (omega (arith, c.requires.few, c.frames.invariant.counts, c.frames.invariant.within, c.split_at.ensures.back_len)) c.feed-used.ensures.drops)
          c.list_next.new.receiver c.list_next.new.listed (g.K.Sink.written c.list_next.new.sink) (g.K.Sink.faults c.list_next.new.sink)
          (subst (λ (x : Bool). NextLists (Some x) c.feed-used.new.self c.frames.listed c.list_next.new.receiver c.list_next.new.listed
          (g.K.Sink.written c.frames.sink) (g.K.Sink.written c.list_next.new.sink) (g.K.Sink.faults c.frames.sink) (g.K.Sink.faults c.list_next.new.sink))
          c.in-Some-true.field-0-test c.in-Some-true.ensures.lists);
    }

pub frames-smaller : goal.frames-smaller
frames-smaller g c =
    let moved = fed_counts c.frames.receiver c.split_at.result.1.now c.feed-used.result c.feed-used.new.self c.feed-used.ensures.most.0
    (omega (arith, c.requires.few, c.frames.invariant.counts, c.frames.invariant.within, c.split_at.ensures.back_len)) c.feed-used.ensures.drops in
    let shorter = (subst (λ (x : Bool). NextLists (Some x) c.feed-used.new.self c.frames.listed c.list_next.new.receiver c.list_next.new.listed
    (g.K.Sink.written c.frames.sink) (g.K.Sink.written c.list_next.new.sink) (g.K.Sink.faults c.frames.sink) (g.K.Sink.faults c.list_next.new.sink))
    c.in-Some-true.field-0-test c.in-Some-true.ensures.lists).3 in
    omega (arith, c.frames.invariant.within, c.feed-used.ensures.most.0, c.split_at.ensures.back_len, moved.0, moved.1, shorter)

pub returns-in-None-clause-lists : goal.returns-in-None-clause-lists
returns-in-None-clause-lists g c = listed_whole c.args.receiver.now c.args.listed.now c.args.chunk.now (c.frames.used + c.feed-used.result) c.feed-used.new.self c.frames.listed
    (g.K.Sink.written c.args.sink.now) (g.K.Sink.written c.frames.sink) (g.K.Sink.faults c.args.sink.now) (g.K.Sink.faults c.frames.sink)
    (fed c.args.receiver.now c.args.listed.now c.args.chunk.now c.frames.used c.frames.receiver c.frames.listed
    (g.K.Sink.written c.args.sink.now) (g.K.Sink.written c.frames.sink) (g.K.Sink.faults c.args.sink.now) (g.K.Sink.faults c.frames.sink)
    c.frames.invariant.going c.split_at.result.1.now c.feed-used.result c.feed-used.new.self c.split_at.ensures.back c.feed-used.ensures.most.0
    c.frames.invariant.behind (omega (arith, c.requires.few, c.frames.invariant.counts, c.frames.invariant.within, c.split_at.ensures.back_len)) c.feed-used.ensures.drops)
    c.list_next.new.receiver c.list_next.new.listed (g.K.Sink.written c.list_next.new.sink) (g.K.Sink.faults c.list_next.new.sink)
    c.in-None.ensures.lists
    (all_fed c.feed-used.new.self.held c.args.chunk.now c.split_at.result.1.now c.frames.used c.feed-used.result c.split_at.ensures.back
    c.feed-used.ensures.most.0 c.requires.size c.feed-used.ensures.all c.in-None.ensures.lists.0) c.feed-used.ensures.drops.settled

pub returns-in-None-clause-counts : goal.returns-in-None-clause-counts
returns-in-None-clause-counts g c =
    let moved = fed_counts c.frames.receiver c.split_at.result.1.now c.feed-used.result c.feed-used.new.self c.feed-used.ensures.most.0
    (omega (arith, c.requires.few, c.frames.invariant.counts, c.frames.invariant.within, c.split_at.ensures.back_len)) c.feed-used.ensures.drops in
    omega (arith, c.frames.invariant.counts, moved.1, c.list_next.ensures.counts, c.frames.invariant.within, c.feed-used.ensures.most.0, c.split_at.ensures.back_len)

pub returns-in-None-clause-bytes : goal.returns-in-None-clause-bytes
returns-in-None-clause-bytes g c = λ i. omega (arith, c.type_inv.chunk i)

pub returns-in-Some-false-clause-lists : goal.returns-in-Some-false-clause-lists
returns-in-Some-false-clause-lists g c = listed_front c.args.receiver.now c.args.listed.now c.args.chunk.now (c.frames.used + c.feed-used.result) c.feed-used.new.self c.frames.listed
    (g.K.Sink.written c.args.sink.now) (g.K.Sink.written c.frames.sink) (g.K.Sink.faults c.args.sink.now) (g.K.Sink.faults c.frames.sink)
    (fed c.args.receiver.now c.args.listed.now c.args.chunk.now c.frames.used c.frames.receiver c.frames.listed
    (g.K.Sink.written c.args.sink.now) (g.K.Sink.written c.frames.sink) (g.K.Sink.faults c.args.sink.now) (g.K.Sink.faults c.frames.sink)
    c.frames.invariant.going c.split_at.result.1.now c.feed-used.result c.feed-used.new.self c.split_at.ensures.back c.feed-used.ensures.most.0
    c.frames.invariant.behind (omega (arith, c.requires.few, c.frames.invariant.counts, c.frames.invariant.within, c.split_at.ensures.back_len)) c.feed-used.ensures.drops)
    c.list_next.new.receiver c.list_next.new.listed (g.K.Sink.written c.list_next.new.sink) (g.K.Sink.faults c.list_next.new.sink)
    (subst (λ (x : Bool). NextLists (Some x) c.feed-used.new.self c.frames.listed c.list_next.new.receiver c.list_next.new.listed
    (g.K.Sink.written c.frames.sink) (g.K.Sink.written c.list_next.new.sink) (g.K.Sink.faults c.frames.sink) (g.K.Sink.faults c.list_next.new.sink))
    c.in-Some-false.field-0-test c.in-Some-false.ensures.lists)

pub returns-in-Some-false-clause-counts : goal.returns-in-Some-false-clause-counts
returns-in-Some-false-clause-counts g c =
    let moved = fed_counts c.frames.receiver c.split_at.result.1.now c.feed-used.result c.feed-used.new.self c.feed-used.ensures.most.0
    (omega (arith, c.requires.few, c.frames.invariant.counts, c.frames.invariant.within, c.split_at.ensures.back_len)) c.feed-used.ensures.drops in
    omega (arith, c.frames.invariant.counts, moved.1, c.list_next.ensures.counts, c.frames.invariant.within, c.feed-used.ensures.most.0, c.split_at.ensures.back_len)

pub returns-in-Some-false-clause-bytes : goal.returns-in-Some-false-clause-bytes
returns-in-Some-false-clause-bytes g c = λ i. omega (arith, c.type_inv.chunk i)
