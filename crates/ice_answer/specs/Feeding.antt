-- What a receiver is fed until a frame waits, and how the bytes that it drops are counted.
use Rattle.std.specs.Prelude.{ℕ, ◌<◌, ◌≤◌, ◌+◌, ◌%◌, ◌^◌, Bool, true, false, List, length, take, ◌++◌}
use Rattle.ice_recv.specs.Received.{Received}
use Rattle.ice_recv.specs.Receiving.{Waits, HasFrame, Drops, risen}
use Rattle.ice_answer.specs.Kept.{ToolState}

-- so many bytes are fed: all, or up to the one with which a frame waits
pub record Feeds (before : Received) (bytes : List ℕ) (used : ℕ) (after : Received) : Type 0 where
  pub most : used ≤ length bytes
  pub drops : Drops (before.held ++ take used bytes) before.dropped after
  pub first : (n : ℕ) → n < used → HasFrame (before.held ++ take n bytes) → ⊥
  pub all : used < length bytes → Waits after.held

-- the count of dropped bytes where the session goes on: with those that the receiver dropped since
abbrev pub counted_on : Bool → (before now : ℕ) → ToolState → ToolState
counted_on true before now tool = record tool { dropped = (tool.dropped + risen before now) % 2 ^ 64 }
counted_on false before now tool = tool
