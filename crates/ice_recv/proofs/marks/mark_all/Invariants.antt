use Rattle.std.proofs.Common.{◌≡◌, ◌≤◌, ◌+◌, ◌-◌, length}
use Rattle.ice_recv.specs.Marks.{AreMarks}
use Rattle.ice_recv.proofs.marks.mark_all.Given as goal

abbrev pub invariant-places : goal.invariant-places
invariant-places l = record {
  marks : AreMarks l.marks.items l.held.items;
  some : 1 ≤ length l.marks.items;
  capacity : l.marks.capacity ≡ l.fn.marks.capacity;
}

abbrev pub decreases-places : goal.decreases-places
decreases-places l = length l.held.items + 1 - length l.marks.items
