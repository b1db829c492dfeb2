use Rattle.std.proofs.Common.{◌≡◌, ◌≤◌, ◌+◌, ◌-◌, take}
use Rattle.line_spec.specs.Frames.{IsPartial}
use Rattle.ice_frame.specs.Scans.{scan_of}
use Rattle.ice_recv.proofs.held.scan_places.Given as goal

abbrev pub invariant-places : goal.invariant-places
invariant-places l = record {
  least : l.from ≤ l.place;
  most : l.place ≤ l.to;
  stands : l.scan ≡ scan_of (take l.place l.held.items);
  partial : IsPartial (take l.place l.held.items);
  looks : l.looks + l.from ≡ l.fn.looks + l.place;
}

abbrev pub decreases-places : goal.decreases-places
decreases-places l = l.to - l.place
