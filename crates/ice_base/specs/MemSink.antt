-- A sink in memory, and what a put to it does.
use Rattle.std.specs.Prelude.{◌≡◌, ℕ, ◌-◌, min, Bool, true, false, List, ◌++◌, take, length, Option, None, Some, MatchOption, nat_le, if◌then◌else◌}
use Rattle.ice_base.specs.Counts.{next_count}
use Rattle.ice_base.specs.Failing.{failed_amount}

-- the bytes written, how many bytes there was room for, the calls that are to fail, the calls so far, the failed calls so far
pub record SinkState : Type 0 where
  pub written : List ℕ
  pub room : ℕ
  pub fails : List (ℕ × ℕ)
  pub calls : ℕ
  pub faults : ℕ

-- how many bytes of a piece of this length a call writes that fails, and none where it does not fail
abbrev pub cut_piece : Option ℕ → ℕ → ℕ → Option ℕ
cut_piece None room_left len = if nat_le len room_left then None else Some 0
cut_piece (Some amount) room_left len = Some (min amount (min len room_left))

-- the same of the next call
abbrev pub failed_len : SinkState → ℕ → Option ℕ
failed_len sink len = cut_piece (failed_amount sink.fails (next_count sink.calls)) (sink.room - length sink.written) len

-- the sink after a call that wrote these bytes
abbrev pub after_put : SinkState → List ℕ → SinkState
after_put sink bytes = record sink { written = sink.written ++ bytes; calls = next_count sink.calls }

-- the sink after a call that wrote these bytes and failed
abbrev pub after_failed_put : SinkState → List ℕ → SinkState
after_failed_put sink bytes = record sink { written = sink.written ++ bytes; calls = next_count sink.calls; faults = next_count sink.faults }

-- what a put does: the sink before, the piece, whether the call was made, the sink after
abbrev pub Puts : SinkState → List ℕ → Bool → SinkState → Type 0
Puts before piece ok after = MatchOption (failed_len before (length piece))
    ((ok ≡ true) × (after ≡ after_put before piece))
    (λ count. (ok ≡ false) × (after ≡ after_failed_put before (take count piece)))
