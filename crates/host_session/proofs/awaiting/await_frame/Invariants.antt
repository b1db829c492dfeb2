use Rattle.std.proofs.Common.{◌≡◌, ◌≤◌, ◌+◌, ◌*◌, length}
use Rattle.host_session.specs.Awaiting.{kept_limit}
use Rattle.host_session.specs.Hearing.{pending_of}
use Rattle.host_session.specs.Words.{words_of}
use Rattle.host_session.proofs.Goings.{Going}
use Rattle.host_session.proofs.awaiting.await_frame.Given as goal

abbrev pub invariant-frames : goal.invariant-frames
invariant-frames g l = record {
  going : Going (words_of g.L.Link.sent g.L.Link.incoming g.L.Link.faults g.L.Link.sends g.L.Link.receives) l.wanted
      (record { link = l.fn.link; pending = pending_of l.fn.inbox; kept = l.fn.kept.items })
      (record { link = l.link; pending = pending_of l.inbox; kept = l.kept.items }) l.allowed;
  room : l.kept.capacity ≡ kept_limit;
  fits : length l.kept.items ≤ kept_limit;
  still : g.L.Link.faults l.link ≡ g.L.Link.faults l.fn.link;
}

abbrev pub decreases-frames : goal.decreases-frames
decreases-frames g l = 2 * l.allowed + length (pending_of l.inbox)
