use Rattle.std.proofs.Common.{◌∙◌}
use Rattle.host_session.specs.Words.{words_of}
use Rattle.debug_shell.proofs.Going.{byte-ends, byte-kept}
use Rattle.debug_shell.proofs.script.take_byte.Goals as goal

pub returns-then-byte-ne10-clause-takes : goal.returns-then-byte-ne10-clause-takes
returns-then-byte-ne10-clause-takes g c =
    byte-kept (words_of g.L.Link.sent g.L.Link.incoming g.L.Link.faults g.L.Link.sends g.L.Link.receives) c.args.byte _ c.args.held.now.items c.keep.new.held.items c.if-byte-ne10.true c.keep.ensures

pub returns-clause-takes : goal.returns-clause-takes
returns-clause-takes g c =
    byte-ends (words_of g.L.Link.sent g.L.Link.incoming g.L.Link.faults g.L.Link.sends g.L.Link.receives) c.args.byte _ _ c.args.held.now.items c.as_slice.result.now c.clear.new.self.items _ c.if-byte-ne10.false
    (c.as_slice.ensures.value ∙ c.keep.ensures) c.clear.ensures c.run_line-end.ensures.ran
