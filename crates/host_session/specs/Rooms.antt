-- The memory of a host.
use Rattle.std.specs.Prelude.{◌≡◌, []}
use Rattle.host_session.specs.Awaiting.{kept_limit}
use Rattle.host_session.specs.declared.room.Room.{Room}

-- nothing has come to it, and it has room for as many events as a host keeps
pub record IsEmpty (room : Room) : Type 0 where
  pub inbox : room.inbox ≡ record { held = []; behind = [] }
  pub kept : room.kept.items ≡ []
  pub capacity : room.kept.capacity ≡ kept_limit
