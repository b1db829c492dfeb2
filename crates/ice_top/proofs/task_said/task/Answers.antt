use Rattle.std.proofs.Common.{sym, ◌∙◌}
use Rattle.ice_top.specs.Calls.{form_told}
use Rattle.ice_top.proofs.Commands.{TaskSaid-none, TaskSaid-one}
use Rattle.ice_top.proofs.task_said.task.Goals as goal

pub returns-in-Some-clause-one : goal.returns-in-Some-clause-one
returns-in-Some-clause-one c = λ other said.
    TaskSaid-one _ (form_told c.in-Some.field-0.form) c.in-Some.field-0.part c.in-Some.ensures other said ∙ sym c.task_by.ensures

pub returns-in-None-clause-one : goal.returns-in-None-clause-one
returns-in-None-clause-one c = TaskSaid-none _ c.in-None.ensures
