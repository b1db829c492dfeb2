use Rattle.std.specs.Prelude.{codes}
use Rattle.ice_frame.specs.Front.{frame_of}
use Rattle.shell_spec.specs.Listing.{count_text, frame_text}
use Rattle.ice_line.proofs.Pieces.{front_first, writes_more}
use Rattle.frame_listing.proofs.lines.put_lines.Goals as goal

pub returns-then-not-put_count-clause-writes : goal.returns-then-not-put_count-clause-writes
returns-then-not-put_count-clause-writes g c =
    front_first (g.K.Sink.written c.args.sink.now) (g.K.Sink.written c.put_count.new.sink) (g.K.Sink.faults c.args.sink.now)
    (g.K.Sink.faults c.put_count.new.sink) (count_text (codes "junk") c.args.junk) (frame_text (frame_of c.args.frame.now))
    c.if-not-put_count.ensures.writes

pub returns-clause-writes : goal.returns-clause-writes
returns-clause-writes g c =
    writes_more c.put_frame.result (g.K.Sink.written c.args.sink.now) (g.K.Sink.written c.put_count.new.sink)
    (g.K.Sink.written c.put_frame.new.sink) (g.K.Sink.faults c.args.sink.now) (g.K.Sink.faults c.put_count.new.sink)
    (g.K.Sink.faults c.put_frame.new.sink) (count_text (codes "junk") c.args.junk) (frame_text (frame_of c.args.frame.now))
    c.if-not-put_count.ensures.writes c.put_frame.ensures.writes
