-- The checks of the bytes held, place by place.
use Rattle.std.specs.Prelude.{◌≡◌, ℕ, ◌+◌, ◌<◌, ◌≤◌, List, ◌++◌, length, take, slice_index}
use Rattle.line_spec.specs.Check.{check}

-- behind some bytes that were dropped, the mark of a place is the check of these and of the bytes held ahead of the place;
-- places are marked from the front on, the one behind the last byte at most
pub record AreMarks (marks held : List ℕ) : Type 0 where
  pub ahead : List ℕ
  pub within : length marks ≤ length held + 1
  pub each : (i : ℕ) → i < length marks → slice_index marks i ≡ check (ahead ++ take i held)
