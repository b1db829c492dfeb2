use Rattle.std.proofs.Common.{◌≡◌, ◌-◌, ◌≤◌}
use Rattle.std.specs.Prelude.{All}
use Rattle.std.specs.Io.KnownBytes.{Consumes}
use Rattle.ice_inbox.specs.Lines.{IsChunk, bytes_of}
use Rattle.ice_inbox.specs.Notes.{bytes_in, line_limit}
use Rattle.ice_inbox.proofs.line_work.send_chunks.Given as goal

-- what was read so far was sent
abbrev pub invariant-chunks : goal.invariant-chunks
invariant-chunks g l = record {
  inbox : l.sender.inbox ≡ l.fn.sender.inbox;
  each : All IsChunk l.sender.sent;
  bounded : l.sent ≤ line_limit;
  counted : bytes_in l.sender.sent ≡ l.sent;
  lost : Consumes (g.S.Source.left l.fn.source) (g.S.Source.left l.source) (bytes_of l.sender.sent);
  faults : g.S.Source.faults l.source ≡ g.S.Source.faults l.fn.source;
}

-- each chunk has a byte
abbrev pub decreases-chunks : goal.decreases-chunks
decreases-chunks g l = line_limit - l.sent
