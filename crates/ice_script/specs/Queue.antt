-- The queue of a link in memory.
use Rattle.std.specs.Prelude.{ℕ, ◌-◌, ◌^◌, Bool, true, false, List}
use Rattle.ice_script.specs.declared.queue.TheConstants.{ROOM}

-- the most bytes that wait
abbrev pub room : ℕ
room = ROOM

-- the bytes that wait, the oldest first, and whether a put has failed for want of room
pub record Waiting : Type 0 where
  pub bytes : List ℕ
  pub full : Bool

-- a queue counts as failed, with the greatest count, once a put has failed
abbrev pub faults_if : Bool → ℕ
faults_if true = 2 ^ 64 - 1
faults_if false = 0

abbrev pub queue_faults : Waiting → ℕ
queue_faults queue = faults_if queue.full
