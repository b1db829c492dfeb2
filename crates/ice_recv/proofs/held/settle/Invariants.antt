use Rattle.std.proofs.Common.{◌≡◌, ◌≤◌, ◌+◌, ◌*◌, length}
use Rattle.ice_recv.specs.Receiving.{frame_limit}
use Rattle.line_spec.specs.Frames.{IsBytes}
use Rattle.ice_recv.specs.Marks.{AreMarks}
use Rattle.ice_recv.specs.Fronts.{JunkAhead}
use Rattle.ice_recv.proofs.held.settle.Given as goal

abbrev pub invariant-items : goal.invariant-items
invariant-items l = record {
  ahead : JunkAhead l.fn.held.items l.fn.dropped (record { held = l.held.items; dropped = l.dropped });
  cost : l.looks ≤ l.fn.looks + frame_limit * length ahead.items;
  capacity : l.held.capacity ≡ l.fn.held.capacity;
  marks : AreMarks l.marks.items l.held.items;
  bytes : IsBytes l.held.items;
  room : l.marks.capacity ≡ frame_limit + 1;
}

abbrev pub decreases-items : goal.decreases-items
decreases-items l = length l.held.items
