-- What the ends of an inbox are to their callers.
use Rattle.std.specs.Prelude.{List, Option}
use Rattle.atomic_table.specs.Seated.{TableId}
use Rattle.atomic_table.specs.declared.badge.Badge.{Badge}
use Rattle.crossbeam_channel.specs.declared.flavors.array.Key.{Key}
use Rattle.ice_inbox.specs.declared.inbox.Note.{Note}

-- which inbox: its table of turns, and its table of notes
pub record Inbox : Type 0 where
  pub turns : TableId
  pub notes : Badge (Key Note)

-- a sender: what it has sent, in order
pub record Sent : Type 0 where
  pub inbox : Inbox
  pub sent : List Note

-- the receiver: what it has taken, in order, and what the line has sent in all, once its sender is taken in
pub record Taken : Type 0 where
  pub inbox : Inbox
  pub taken : List Note
  pub known : Option (List Note)
