use Rattle.std.proofs.Common.{List, ℕ, subst}
use Rattle.ice_line.specs.Lines.{Writes, WritesAll, WritesFront}
use Rattle.ice_line.proofs.Pieces.{front_first, writes_more}
use Rattle.ice_serve.proofs.step.Sent.write.Goals as goal

pub returns-then-not-write_some-clause-writes : goal.returns-then-not-write_some-clause-writes
returns-then-not-write_some-clause-writes g c =
    front_first _ _ _ _ c.args.self.now.answer.items c.args.self.now.okay.items
    (subst (λ (l : List ℕ). WritesFront (g.K.Sink.written c.args.sink.now) (g.K.Sink.written c.write_some.new.sink)
    (g.K.Sink.faults c.args.sink.now) (g.K.Sink.faults c.write_some.new.sink) l) c.as_slice.ensures.value c.if-not-write_some.ensures.writes)

pub returns-clause-writes : goal.returns-clause-writes
returns-clause-writes g c =
    writes_more c.write_some-2.result _ (g.K.Sink.written c.write_some.new.sink) _ _ (g.K.Sink.faults c.write_some.new.sink) _
    c.args.self.now.answer.items c.args.self.now.okay.items
    (subst (λ (l : List ℕ). WritesAll (g.K.Sink.written c.args.sink.now) (g.K.Sink.written c.write_some.new.sink)
    (g.K.Sink.faults c.args.sink.now) (g.K.Sink.faults c.write_some.new.sink) l) c.as_slice.ensures.value
    c.if-not-write_some.ensures.writes)
    (subst (λ (l : List ℕ). Writes c.write_some-2.result (g.K.Sink.written c.write_some.new.sink) (g.K.Sink.written c.write_some-2.new.sink)
    (g.K.Sink.faults c.write_some.new.sink) (g.K.Sink.faults c.write_some-2.new.sink) l) c.as_slice-2.ensures.value
    c.write_some-2.ensures.writes)
