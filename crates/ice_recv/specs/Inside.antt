-- What a receiver's fields stand for.
use Rattle.std.specs.Prelude.{◌≡◌, ◌+◌, ◌≤◌, length}
use Rattle.ice_recv.specs.Received.{Received}
use Rattle.line_spec.specs.Frames.{IsBytes}
use Rattle.ice_recv.specs.Marks.{AreMarks}
use Rattle.ice_recv.specs.Receiving.{Stands, frame_limit}
use Rattle.ice_recv.specs.declared.receiver.Receiver.TheInside.{Inside}

abbrev pub view_of : Inside → Received
view_of receiver = record { held = receiver.held.items; dropped = receiver.dropped }

-- what waits or is scanned is what is held, which are bytes that fit a frame, and there is room for all of one and its marks
pub record IsReceiver (receiver : Inside) : Type 0 where
  pub stands : Stands receiver.waiting receiver.scan receiver.held.items
  pub bytes : IsBytes receiver.held.items
  pub fits : length receiver.held.items ≤ frame_limit
  pub room : receiver.held.capacity ≡ frame_limit
  pub marks : AreMarks receiver.marks.items receiver.held.items
  pub marks_room : receiver.marks.capacity ≡ frame_limit + 1
