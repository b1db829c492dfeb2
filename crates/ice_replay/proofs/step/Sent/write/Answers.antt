use Rattle.std.proofs.Common.{◌++◌, List, ℕ, subst}
use Rattle.ice_line.specs.Lines.{Writes, WritesAll, WritesFront}
use Rattle.ice_line.proofs.Pieces.{front_first, front_more, writes_more}
use Rattle.ice_replay.proofs.step.Sent.write.Goals as goal

pub returns-then-not-write_some-clause-writes : goal.returns-then-not-write_some-clause-writes
returns-then-not-write_some-clause-writes g c =
    front_first _ _ _ _ c.args.self.now.answer.items (c.args.self.now.okay.items ++ c.args.self.now.event.items)
    (subst (λ (l : List ℕ). WritesFront (g.K.Sink.written c.args.sink.now) (g.K.Sink.written c.write_some.new.sink)
    (g.K.Sink.faults c.args.sink.now) (g.K.Sink.faults c.write_some.new.sink) l) c.as_slice.ensures.value c.if-not-write_some.ensures.writes)

pub returns-then-not-write_some-2-clause-writes : goal.returns-then-not-write_some-2-clause-writes
returns-then-not-write_some-2-clause-writes g c =
    front_more _ (g.K.Sink.written c.write_some.new.sink) _ _ (g.K.Sink.faults c.write_some.new.sink) _ c.args.self.now.answer.items
    (c.args.self.now.okay.items ++ c.args.self.now.event.items)
    (subst (λ (l : List ℕ). WritesAll (g.K.Sink.written c.args.sink.now) (g.K.Sink.written c.write_some.new.sink)
    (g.K.Sink.faults c.args.sink.now) (g.K.Sink.faults c.write_some.new.sink) l) c.as_slice.ensures.value
    c.if-not-write_some.ensures.writes)
    (front_first _ _ _ _ c.args.self.now.okay.items c.args.self.now.event.items
    (subst (λ (l : List ℕ). WritesFront (g.K.Sink.written c.write_some.new.sink) (g.K.Sink.written c.write_some-2.new.sink)
    (g.K.Sink.faults c.write_some.new.sink) (g.K.Sink.faults c.write_some-2.new.sink) l) c.as_slice-2.ensures.value
    c.if-not-write_some-2.ensures.writes))

pub returns-clause-writes : goal.returns-clause-writes
returns-clause-writes g c =
    writes_more c.write_some-3.result _ (g.K.Sink.written c.write_some.new.sink) _ _ (g.K.Sink.faults c.write_some.new.sink) _
    c.args.self.now.answer.items (c.args.self.now.okay.items ++ c.args.self.now.event.items)
    (subst (λ (l : List ℕ). WritesAll (g.K.Sink.written c.args.sink.now) (g.K.Sink.written c.write_some.new.sink)
    (g.K.Sink.faults c.args.sink.now) (g.K.Sink.faults c.write_some.new.sink) l) c.as_slice.ensures.value
    c.if-not-write_some.ensures.writes)
    (writes_more c.write_some-3.result _ (g.K.Sink.written c.write_some-2.new.sink) _ _ (g.K.Sink.faults c.write_some-2.new.sink) _
    c.args.self.now.okay.items c.args.self.now.event.items
    (subst (λ (l : List ℕ). WritesAll (g.K.Sink.written c.write_some.new.sink) (g.K.Sink.written c.write_some-2.new.sink)
    (g.K.Sink.faults c.write_some.new.sink) (g.K.Sink.faults c.write_some-2.new.sink) l)
    c.as_slice-2.ensures.value c.if-not-write_some-2.ensures.writes)
    (subst (λ (l : List ℕ). Writes c.write_some-3.result (g.K.Sink.written c.write_some-2.new.sink) (g.K.Sink.written c.write_some-3.new.sink)
    (g.K.Sink.faults c.write_some-2.new.sink) (g.K.Sink.faults c.write_some-3.new.sink) l) c.as_slice-3.ensures.value
    c.write_some-3.ensures.writes))
