use Rattle.std.proofs.Common.{[], refl}
use Rattle.avr_spec.specs.Step.{step, ahead, go_on}
use Rattle.avr_spec.specs.Decode.{decode}
use Rattle.avr_spec.specs.Timers.{tick, clocked}
use Rattle.line_spec.proofs.Cuts.{IsPartial-nil}
use Rattle.debug_spec.specs.Schedule.{line_ended}
use Rattle.debug_spec.specs.inside.Examples.{small}
use Rattle.debug_spec.proofs.ServedRows.{at_first, going, hears_go}
use Rattle.debug_spec.proofs.schedule_rows.others_that_halt_are_no_event.Goals as goal

pub returns-clause-before : goal.returns-clause-before
unfolding step ahead go_on decode tick clocked
returns-clause-before c = record { after = at_first; schedule = (at_first, refl, (at_first, refl, refl)); holds = refl; shows = refl }

pub returns-clause-other : goal.returns-clause-other
unfolding step ahead go_on decode tick clocked
returns-clause-other c =
    let s = going [] in record {
      after = s;
      schedule = (s, hears_go [] IsPartial-nil, (s, refl, (s, refl, refl)));
      holds = refl;
      shows = refl;
    }

pub returns-clause-behind : goal.returns-clause-behind
unfolding step ahead go_on decode tick clocked
returns-clause-behind c =
    let s = line_ended small at_first in record { after = s; schedule = (s, refl, (s, refl, (s, refl, refl))); holds = refl; shows = refl }
