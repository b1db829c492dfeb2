use Rattle.std.proofs.Common.{ℕ, List, [], inl, refl, Option, Some, None}
use Rattle.line_spec.specs.Check.{checked, check}
use Rattle.line_spec.specs.Frames.{unchecked, bytes_of}
use Rattle.avr_spec.specs.Step.{step, ahead, go_on}
use Rattle.avr_spec.specs.Decode.{decode}
use Rattle.avr_spec.specs.Timers.{tick, clocked}
use Rattle.debug_spec.specs.Schedule.{Session}
use Rattle.record_spec.specs.Fits.{Point}
use Rattle.record_spec.specs.inside.Examples.{okay_bytes}
use Rattle.record_spec.proofs.RecordRows.{prepared_then, going, left_then, over_then, go_comes, five_steps_may}
use Rattle.record_spec.proofs.rows.a_run_that_is_left_fits.Goals as goal

abbrev at_ : Session → Option (List ℕ) → ℕ → Point
at_ session owed steps = record { session = session; owed = owed; steps = steps }

pub returns : goal.returns
unfolding checked check unchecked bytes_of step ahead go_on decode tick clocked
returns c = record {
  end = at_ over_then None 5;
  reaches = (
    at_ going (Some okay_bytes) 0,
    (refl, okay_bytes, going, record { happens = (refl, prepared_then, inl go_comes, refl); sends = refl }, refl),
    (
      at_ going None 0,
      (refl, refl),
      (
        at_ left_then (Some []) 0,
        (refl, [], left_then, record { happens = (refl, refl); sends = refl }, refl),
        (
          at_ left_then None 0,
          (refl, refl),
          (
            at_ over_then (Some []) 5,
            (refl, [], over_then, record { happens = (five_steps_may, refl); sends = refl }, refl),
            (at_ over_then None 5, (refl, refl), refl),
          ),
        ),
      ),
    ),
  );
  told = refl;
  closed = refl;
}
