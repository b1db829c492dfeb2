use Rattle.std.proofs.Common.{ℕ, ◌-◌, length, subst}
use Rattle.std.specs.Prelude.{codes}
use Rattle.shell_spec.specs.Listing.{count_text}
use Rattle.ice_line.specs.Lines.{Writes, WritesAll, WritesFront}
use Rattle.ice_line.proofs.Pieces.{front_first, writes_more}
use Rattle.frame_listing.proofs.stream.put_last.Goals as goal

pub returns-then-not-put_count-clause-writes : goal.returns-then-not-put_count-clause-writes
returns-then-not-put_count-clause-writes g c =
    front_first (g.K.Sink.written c.args.sink.now) (g.K.Sink.written c.put_count.new.sink) (g.K.Sink.faults c.args.sink.now)
    (g.K.Sink.faults c.put_count.new.sink) (count_text (codes "junk") (c.args.receiver.now.dropped - c.args.listed))
    (count_text (codes "rest") (length c.args.receiver.now.held))
    (subst (λ (n : ℕ). WritesFront (g.K.Sink.written c.args.sink.now) (g.K.Sink.written c.put_count.new.sink) (g.K.Sink.faults c.args.sink.now)
    (g.K.Sink.faults c.put_count.new.sink) (count_text (codes "junk") (n - c.args.listed))) c.dropped.ensures c.if-not-put_count.ensures.writes)

pub returns-clause-writes : goal.returns-clause-writes
returns-clause-writes g c =
    writes_more c.put_count-2.result (g.K.Sink.written c.args.sink.now) (g.K.Sink.written c.put_count.new.sink)
    (g.K.Sink.written c.put_count-2.new.sink) (g.K.Sink.faults c.args.sink.now) (g.K.Sink.faults c.put_count.new.sink)
    (g.K.Sink.faults c.put_count-2.new.sink) (count_text (codes "junk") (c.args.receiver.now.dropped - c.args.listed))
    (count_text (codes "rest") (length c.args.receiver.now.held))
    (subst (λ (n : ℕ). WritesAll (g.K.Sink.written c.args.sink.now) (g.K.Sink.written c.put_count.new.sink) (g.K.Sink.faults c.args.sink.now)
    (g.K.Sink.faults c.put_count.new.sink) (count_text (codes "junk") (n - c.args.listed))) c.dropped.ensures c.if-not-put_count.ensures.writes)
    (subst (λ (n : ℕ). Writes c.put_count-2.result (g.K.Sink.written c.put_count.new.sink) (g.K.Sink.written c.put_count-2.new.sink)
    (g.K.Sink.faults c.put_count.new.sink) (g.K.Sink.faults c.put_count-2.new.sink) (count_text (codes "rest") n)) c.rest.ensures.rest
    c.put_count-2.ensures.writes)
