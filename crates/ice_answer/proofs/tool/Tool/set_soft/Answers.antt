use Rattle.std.proofs.Common.{ap, ◌∙◌}
use Rattle.debug_spec.specs.Breakpoints.{set_numbered}
use Rattle.ice_answer.specs.Tools.{tool_of}
use Rattle.ice_answer.proofs.Doing.{does_from}
use Rattle.ice_answer.proofs.Breaking.{soft_set, soft_refused}
use Rattle.ice_answer.proofs.tool.Tool.set_soft.Goals as goal
use Rattle.ice_answer.proofs.tool.Tool.set_soft.Goals.{in-Ok, in-Err}

pub returns-clause-does : goal.returns-clause-does
returns-clause-does c = λ core comparators. elim c.match-set.branch [
  | in-Ok w ↦ does_from (λ part. set_numbered part c.args.frame 0 c.args.address) (tool_of c.self.inside) _ core comparators _ _ c.self.view_is
      (soft_set (tool_of c.self.inside) core comparators c.args.frame c.args.address c.args.out.now.items c.match-set.out.items c.set.new.self
      w.in-Ok.ensures.answer w.in-Ok.ensures.set (ap (λ k. k.items) w.out-is ∙ w.okay.ensures.sends))
  | in-Err w ↦ does_from (λ part. set_numbered part c.args.frame 0 c.args.address) (tool_of c.self.inside) _ core comparators _ _ c.self.view_is
      (soft_refused (tool_of c.self.inside) core comparators c.args.frame c.args.address c.args.out.now.items c.match-set.out.items c.set.new.self
      w.in-Err.field-0 w.in-Err.ensures.answer w.in-Err.ensures.refused (ap (λ k. k.items) w.out-is ∙ w.refuse.ensures.sends))
]
