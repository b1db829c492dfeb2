use Rattle.std.proofs.Common.{true, refl, sym, ap, ◌∙◌}
use Rattle.part_spec.specs.Chip.{chip_of}
use Rattle.line_spec.specs.Messages.{enter_programming}
use Rattle.debug_spec.specs.Device.{synced}
use Rattle.debug_spec.specs.Commands.{carried_out, entered_by}
use Rattle.flash_patch.specs.Asking.{seen}
use Rattle.ice_answer.specs.Kept.{ToolState}
use Rattle.ice_emul.proofs.ProgrammingTold.{entering_made, entering_failed}
use Rattle.ice_emul.proofs.programming.enter_programming.Goals as goal

pub returns-in-Ok-clause-asks : goal.returns-in-Ok-clause-asks
returns-in-Ok-clause-asks g c =
    entering_made (seen g.F.Flash.words g.F.Flash.journal g.F.Flash.faults g.F.Flash.writes) c.args.number c.args.job.now.core
    c.args.job.now.comparators c.args.out.now.items c.okay.new.out.items c.args.job.now.flash c.restore.new.flash
    (λ d. synced (chip_of c.tool.inside.plan.part) c.tool.inside.plan.prog d) (λ q. carried_out true q c.args.number enter_programming) _ _
    (λ q s is. ap (λ (k : ToolState). entered_by c.args.number (synced (chip_of k.plan.part) k.plan.prog s.device) s)
    (sym (c.tool.view_is ∙ is)))
    c.open_flash.ensures c.in-Ok.ensures.asks c.okay.ensures.sends

pub returns-in-Err-clause-asks : goal.returns-in-Err-clause-asks
returns-in-Err-clause-asks g c =
    entering_failed (seen g.F.Flash.words g.F.Flash.journal g.F.Flash.faults g.F.Flash.writes) c.args.number c.args.job.now.core
    c.args.job.now.comparators c.args.out.now.items c.refuse.new.out.items c.args.job.now.flash c.restore.new.flash
    (λ d. synced (chip_of c.tool.inside.plan.part) c.tool.inside.plan.prog d) (λ q. carried_out true q c.args.number enter_programming) _ _
    (λ q s is. ap (λ (k : ToolState). entered_by c.args.number (synced (chip_of k.plan.part) k.plan.prog s.device) s)
    (sym (c.tool.view_is ∙ is)))
    refl c.in-Err.ensures.asks c.refuse.ensures.sends
