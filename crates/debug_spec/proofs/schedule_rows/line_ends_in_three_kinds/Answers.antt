use Rattle.std.proofs.Common.{refl}
use Rattle.avr_spec.specs.Step.{step, ahead, go_on}
use Rattle.avr_spec.specs.Decode.{decode}
use Rattle.avr_spec.specs.Timers.{tick, clocked}
use Rattle.debug_spec.specs.Schedule.{line_ended, line_end_note, line_fault, too_long}
use Rattle.debug_spec.specs.inside.Examples.{small}
use Rattle.debug_spec.specs.inside.ScheduleExamples.{begun}
use Rattle.debug_spec.proofs.ServedRows.{going, over_by, line_ends_by}
use Rattle.debug_spec.proofs.schedule_rows.line_ends_in_three_kinds.Goals as goal

pub returns-clause-end : goal.returns-clause-end
unfolding step ahead go_on decode tick clocked
returns-clause-end c =
    record { after = over_by (line_ended small (going begun)); schedule = line_ends_by line_end_note refl; holds = refl; shows = refl }

pub returns-clause-fault : goal.returns-clause-fault
unfolding step ahead go_on decode tick clocked
returns-clause-fault c =
    record { after = over_by (line_ended small (going begun)); schedule = line_ends_by line_fault refl; holds = refl; shows = refl }

pub returns-clause-long : goal.returns-clause-long
unfolding step ahead go_on decode tick clocked
returns-clause-long c =
    record { after = over_by (line_ended small (going begun)); schedule = line_ends_by too_long refl; holds = refl; shows = refl }
