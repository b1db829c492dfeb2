-- Cycles in which a timer is quiet: its counts do nothing but raise its counter, so they need not be made one by one.
use Rattle.std.specs.Prelude.{◌≡◌, ℕ, ◌+◌, ◌/◌, ◌%◌, ◌^◌, ◌≤◌, Bool, ◌||◌, ◌==◌, nat_lt, nat_le, IsTrue, if◌then◌else◌, ◌∷◌, take, slice_set}
use Rattle.avr_spec.specs.declared.target.OutWrite.{OutWrite}
use Rattle.avr_spec.specs.IoSpace.{IoState, kept_byte, tcnt0, tcnt2}
use Rattle.avr_spec.specs.Timers.{Timer, timer0, timer2, divisor}
use Rattle.avr_spec.specs.Kept.{KeptIo, ring_size}
use Rattle.avr_io.specs.Keeps.{io_of, IsKeptIo}
use Rattle.avr_io.specs.Pending.{is_any_pending}

-- how many of the next n cycles a divisor divides, none where it is 0
abbrev pub counts_by : ℕ → ℕ → ℕ → ℕ
counts_by every cycles n = if every == 0 then 0 else (cycles % every + n) / every

-- how often a timer counts in the next n cycles
abbrev pub counts_in : ℕ → Timer → IoState → ℕ
counts_in n timer io = counts_by (divisor timer io) io.cycles n

-- where a counter that rises comes to its next event: the compare byte that it has not passed, else 256
abbrev pub next_event : ℕ → ℕ → ℕ
next_event count compare = if nat_le count compare then compare else 256

-- so many counts do nothing but raise the counter: there is none, or it stays below its next event
abbrev pub stays_below : ℕ → ℕ → ℕ → Bool
stays_below count compare counts = (counts == 0) || nat_lt (count + counts) (next_event count compare)

-- a timer is quiet for n cycles
abbrev pub is_quiet_for : ℕ → Timer → IoState → Bool
is_quiet_for n timer io = stays_below (kept_byte io timer.counter) (kept_byte io timer.compare) (counts_in n timer io)

-- both timers are quiet for n cycles
pub record IsQuietFor (n : ℕ) (io : IoState) : Type 0 where
  pub timer_0 : IsTrue (is_quiet_for n timer0 io)
  pub timer_2 : IsTrue (is_quiet_for n timer2 io)

-- the counter of a timer after n quiet cycles
abbrev pub count_after : ℕ → Timer → IoState → ℕ
count_after n timer io = kept_byte io timer.counter + counts_in n timer io

-- what is kept after n quiet cycles
abbrev pub later : ℕ → KeptIo → KeptIo
later n k = record k {
  bytes = slice_set (slice_set k.bytes tcnt0 (count_after n timer0 (io_of k))) tcnt2 (count_after n timer2 (io_of k));
  cycles = (k.cycles + n) % 2 ^ 64;
}

-- the longest look ahead, in cycles
abbrev pub longest : ℕ
longest = 2 ^ 32

-- an I/O space that stood so `passed` cycles ago is quiet for `limit` cycles, and they are not over
pub record IsAhead (k : KeptIo) (passed limit : ℕ) : Type 0 where
  pub kept : IsKeptIo k
  pub quiet : (n : ℕ) → n ≤ limit → IsQuietFor n (io_of k)
  pub within : passed ≤ limit
  pub bound : limit ≤ longest

-- the same, and whether any interrupt is pending is known
pub record IsWatched (k : KeptIo) (passed limit : ℕ) (pending : Bool) : Type 0 where
  pub ahead : IsAhead k passed limit
  pub pending_is : pending ≡ is_any_pending (io_of k)

-- the byte at an I/O address becomes this one
abbrev pub with_byte : ℕ → ℕ → KeptIo → KeptIo
with_byte a byte k = record k { bytes = slice_set k.bytes a byte }

-- an output write more is kept and counted
abbrev pub with_write : OutWrite → KeptIo → KeptIo
with_write write k = record k { ring = take ring_size (write ∷ k.ring); total = (k.total + 1) % 2 ^ 64 }
