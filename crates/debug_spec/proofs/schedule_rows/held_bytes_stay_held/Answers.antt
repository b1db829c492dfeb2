use Rattle.std.proofs.Common.{refl}
use Rattle.avr_spec.specs.Step.{step, ahead, go_on}
use Rattle.avr_spec.specs.Decode.{decode}
use Rattle.avr_spec.specs.Timers.{tick, clocked}
use Rattle.debug_spec.specs.Schedule.{line_ended}
use Rattle.debug_spec.specs.inside.Examples.{small}
use Rattle.debug_spec.proofs.ServedRows.{stopping, over_by, halts_by, hears_both}
use Rattle.debug_spec.proofs.schedule_rows.held_bytes_stay_held.Goals as goal

pub returns-clause-halted : goal.returns-clause-halted
unfolding step ahead go_on decode tick clocked
returns-clause-halted c = record {
  after = over_by stopping;
  schedule = (stopping, hears_both, (over_by stopping, halts_by stopping refl refl, refl));
  holds = refl;
  shows = refl;
}

pub returns-clause-ended : goal.returns-clause-ended
unfolding step ahead go_on decode tick clocked
returns-clause-ended c =
    let s = line_ended small (over_by stopping) in record {
      after = line_ended small s;
      schedule = (stopping, hears_both, (over_by stopping, halts_by stopping refl refl, (s, refl, (line_ended small s, refl, refl))));
      holds = refl;
      shows = refl;
    }
