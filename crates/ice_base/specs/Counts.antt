-- What is said of an outside object's count of faults, a u64 that stands still at its greatest value.
use Rattle.std.specs.Prelude.{ℕ, ◌+◌, ◌-◌, ◌^◌, ◌≤◌, min, Result, OnErr}

-- the count rose: it is greater than before, or stands at the greatest u64
abbrev pub Rose : ℕ → ℕ → Type 0
Rose before now = min (before + 1) (2 ^ 64 - 1) ≤ now

-- no count falls, and an `Err` has a cause: the count rose
abbrev pub HasCause : {T E : Type 0} → Result T E → ℕ → ℕ → Type 0
HasCause result before now = (before ≤ now) × OnErr result (Rose before now)

-- a count, one further
abbrev pub next_count : ℕ → ℕ
next_count count = min (count + 1) (2 ^ 64 - 1)
