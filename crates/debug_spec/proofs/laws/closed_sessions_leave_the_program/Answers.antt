use Rattle.debug_spec.proofs.Sessions.{replays_close, schedules_leave_program}
use Rattle.debug_spec.proofs.laws.closed_sessions_leave_the_program.Goals as goal

pub returns-clause-replays : goal.returns-clause-replays
returns-clause-replays c = replays_close

pub returns-clause-schedules : goal.returns-clause-schedules
returns-clause-schedules c = schedules_leave_program
