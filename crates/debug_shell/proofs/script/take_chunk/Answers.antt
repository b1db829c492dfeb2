use Rattle.std.proofs.Common.{None, arith}
use Rattle.host_session.specs.Words.{words_of}
use Rattle.debug_shell.proofs.Going.{chunk-ends, chunk-more, chunk-whole, none-taken}
use Rattle.debug_shell.proofs.script.take_chunk.Goals as goal

pub bytes-init : goal.bytes-init
bytes-init g c = record {
  takes = none-taken (words_of g.L.Link.sent g.L.Link.incoming g.L.Link.faults g.L.Link.sends g.L.Link.receives) _ c.args.held.now.items;
  counts = omega arith;
}

pub bytes-preserved : goal.bytes-preserved
bytes-preserved g c = record {
  takes = chunk-more (words_of g.L.Link.sent g.L.Link.incoming g.L.Link.faults g.L.Link.sends g.L.Link.receives) c.args.chunk.now c.bytes.byte-index _ _ _ c.args.held.now.items c.bytes.held.items c.take_byte.new.held.items None
      c.bytes-test.true c.bytes.invariant.takes c.in-None.ensures.takes;
  counts = omega (arith, c.bytes.invariant.counts, c.take_byte.ensures.counts);
}

pub returns-in-Some-clause-takes : goal.returns-in-Some-clause-takes
returns-in-Some-clause-takes g c =
    chunk-ends (words_of g.L.Link.sent g.L.Link.incoming g.L.Link.faults g.L.Link.sends g.L.Link.receives) c.args.chunk.now c.bytes.byte-index _ _ _ c.args.held.now.items c.bytes.held.items c.take_byte.new.held.items c.in-Some.end
    c.bytes-test.true c.bytes.invariant.takes c.in-Some.ensures.takes

pub returns-clause-takes : goal.returns-clause-takes
returns-clause-takes g c =
    chunk-whole (words_of g.L.Link.sent g.L.Link.incoming g.L.Link.faults g.L.Link.sends g.L.Link.receives) c.args.chunk.now c.bytes.byte-index _ _ c.args.held.now.items c.bytes.held.items c.bytes-test.false c.bytes.invariant.takes
