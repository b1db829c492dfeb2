use Rattle.std.proofs.Common.{[], ◌∷◌, refl}
use Rattle.avr_spec.specs.Step.{step, ahead, go_on}
use Rattle.avr_spec.specs.Decode.{decode}
use Rattle.avr_spec.specs.Timers.{tick, clocked}
use Rattle.line_spec.specs.Messages.{sign_off}
use Rattle.line_spec.specs.Hearing.{request, asks}
use Rattle.debug_spec.specs.Schedule.{line_ended}
use Rattle.debug_spec.specs.inside.Examples.{small}
use Rattle.debug_spec.proofs.ServedRows.{told_all, hears_off}
use Rattle.debug_spec.proofs.schedule_rows.nothing_is_held_behind_a_sign_off.Goals as goal

pub returns : goal.returns
unfolding step ahead go_on decode tick clocked
returns c =
    let s = told_all (request 0 (asks sign_off) ∷ []) [] in record {
      after = line_ended small s;
      schedule = (s, hears_off, (s, refl, (line_ended small s, refl, refl)));
      holds = refl;
      shows = refl;
    }
