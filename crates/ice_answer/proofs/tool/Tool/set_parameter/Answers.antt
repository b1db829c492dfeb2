use Rattle.std.proofs.Common.{ap, ◌∙◌}
use Rattle.line_spec.specs.Parameters.{parameter_written}
use Rattle.debug_spec.specs.Commands.{parameter_set}
use Rattle.ice_answer.specs.Tools.{tool_of}
use Rattle.ice_answer.proofs.Doing.{does_from}
use Rattle.ice_answer.proofs.ParameterWrites.{parameter_done, parameter_not_done}
use Rattle.ice_answer.proofs.tool.Tool.set_parameter.Goals as goal
use Rattle.ice_answer.proofs.tool.Tool.set_parameter.Goals.{in-Ok, in-Err}

pub returns-clause-does : goal.returns-clause-does
returns-clause-does c = λ core comparators. elim c.match-set.branch [
  | in-Ok w ↦ does_from (λ part s. parameter_set c.args.number (parameter_written s.parameters c.args.id c.args.value.now) s) (tool_of c.self.inside) _ core comparators _ _ c.self.view_is
      (parameter_done (tool_of c.self.inside) core comparators c.args.number c.args.id c.args.value.now c.args.out.now.items
      c.match-set.out.items c.set.new.self w.in-Ok.ensures (ap (λ k. k.items) w.out-is ∙ w.okay.ensures.sends))
  | in-Err w ↦ does_from (λ part s. parameter_set c.args.number (parameter_written s.parameters c.args.id c.args.value.now) s) (tool_of c.self.inside) _ core comparators _ _ c.self.view_is
      (parameter_not_done (tool_of c.self.inside) core comparators c.args.number c.args.id c.args.value.now c.args.out.now.items
      c.match-set.out.items c.set.new.self w.in-Err.refusal w.in-Err.ensures.0 w.in-Err.ensures.1
      (ap (λ k. k.items) w.out-is ∙ w.refuse.ensures.sends))
]
