-- A source in memory, and what a read of it does.
use Rattle.std.specs.Prelude.{ℕ, min, max, Bool, List, [], ◌∷◌, drop, length, ◌==◌}
use Rattle.std.specs.List.{list_any}
use Rattle.ice_base.specs.Counts.{next_count}

-- the bytes still to come, how many bytes each of the next reads gives at most, the numbers of the calls that fail, the calls so far, the failed calls so far
pub record SourceState : Type 0 where
  pub left : List ℕ
  pub cuts : List ℕ
  pub fails : List ℕ
  pub calls : ℕ
  pub faults : ℕ

-- whether the next call fails
abbrev pub fails_next : SourceState → Bool
fails_next source = list_any (λ call. call == next_count source.calls) source.fails

-- how many of the bytes that fit the first of these cuts lets through: at least one, and all of them where no cut is left
abbrev pub cut_to : List ℕ → ℕ → ℕ
cut_to [] fit = fit
cut_to (cut ∷ cuts) fit = min (max cut 1) fit

-- how many bytes a read gives to a buffer of this length
abbrev pub read_len : SourceState → ℕ → ℕ
read_len source room = cut_to source.cuts (min (length source.left) room)

-- the source after a read that gave so many bytes
abbrev pub after_read : SourceState → ℕ → SourceState
after_read source count = record source { left = drop count source.left; cuts = drop 1 source.cuts; calls = next_count source.calls }

-- the source after a read that failed
abbrev pub after_failed_read : SourceState → SourceState
after_failed_read source = record source { calls = next_count source.calls; faults = next_count source.faults }
