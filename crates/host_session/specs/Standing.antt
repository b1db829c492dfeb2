-- What a host is to its caller.
use Rattle.std.specs.Prelude.{ℕ, List}
use Rattle.ice_msg.specs.declared.event.Event.{Event}

-- the link, the bytes that have come and were not taken yet, and the events that were kept, the oldest first
pub record Standing (L : Type 0) : Type 0 where
  pub link : L
  pub pending : List ℕ
  pub kept : List Event

-- and the number of the next command
pub record Hosted (L : Type 0) : Type 0 where
  pub standing : Standing L
  pub number : ℕ

-- the bytes that have come: those that were looked at, and the others
pub record Arrived : Type 0 where
  pub held : List ℕ
  pub behind : List ℕ
