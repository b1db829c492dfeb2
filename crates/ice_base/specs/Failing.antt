-- The calls of an object in memory that are to fail: a list of entries, each the number of a call, from 1, and how much that call does before it fails.
use Rattle.std.specs.Prelude.{ℕ, List, Option, ◌==◌}
use Rattle.std.specs.List.{find}
use Rattle.std.specs.Option.{option_map}

-- how much the call with this number does, where it is to fail: of several entries with one number the first counts
abbrev pub failed_amount : List (ℕ × ℕ) → ℕ → Option ℕ
failed_amount fails call = option_map (λ entry. entry.1) (find (λ entry. entry.0 == call) fails)
