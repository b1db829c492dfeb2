use Rattle.std.proofs.Common.{ap, sym, ◌∙◌, Some, refl}
use Rattle.part_spec.specs.Chip.{chip_of}
use Rattle.line_spec.specs.Messages.{response_body, refused}
use Rattle.line_spec.specs.declared.refusal.Refusal.TheVariants.{IllegalBreakpoint}
use Rattle.debug_spec.specs.Patch.{plantable}
use Rattle.debug_spec.specs.Running.{prepared}
use Rattle.debug_spec.specs.Breakpoints.{no_breakpoint}
use Rattle.debug_spec.specs.Commands.{run_prepared}
use Rattle.flash_patch.specs.Asking.{seen}
use Rattle.ice_answer.specs.Kept.{ToolState}
use Rattle.ice_answer.proofs.Doing.{yes_if, no_if, does-send, same_does}
use Rattle.ice_emul.proofs.Asking.{asking_nothing, same_asking}
use Rattle.ice_emul.proofs.running.prepare_to.Goals as goal

pub returns-then-not-plantable-clause-asks : goal.returns-then-not-plantable-clause-asks
returns-then-not-plantable-clause-asks g c =
    asking_nothing (seen g.F.Flash.words g.F.Flash.journal g.F.Flash.faults g.F.Flash.writes) (λ part. run_prepared part c.args.number c.args.address) _ _ _ _ refl
    (same_does (λ part. no_breakpoint c.args.number) (λ part. run_prepared part c.args.number c.args.address) _ _
    (λ part before s e. no_if (plantable (chip_of part) s.prog c.args.address) (prepared (chip_of part) c.args.number (Some c.args.address) s)
    (no_breakpoint c.args.number s)
    (ap (λ (k : ToolState). plantable (chip_of k.plan.part) k.plan.prog c.args.address) (sym (c.tool.view_is ∙ e.tool)) ∙ sym c.plantable.ensures ∙ c.if-not-plantable.true))
    (does-send c.args.number (response_body (refused IllegalBreakpoint)) c.args.out.now.items c.refuse.new.out.items c.args.tool.now c.args.job.now.core
    c.args.job.now.comparators c.refuse.ensures.sends))

pub returns-clause-asks : goal.returns-clause-asks
returns-clause-asks g c =
    same_asking (seen g.F.Flash.words g.F.Flash.journal g.F.Flash.faults g.F.Flash.writes) (λ part. prepared part c.args.number (Some c.args.address))
    (λ part. run_prepared part c.args.number c.args.address) _ _ _ _
    (λ part before s e. yes_if (plantable (chip_of part) s.prog c.args.address) (prepared (chip_of part) c.args.number (Some c.args.address) s)
    (no_breakpoint c.args.number s)
    (ap (λ (k : ToolState). plantable (chip_of k.plan.part) k.plan.prog c.args.address) (sym (c.tool.view_is ∙ e.tool)) ∙ sym c.plantable.ensures ∙ c.if-not-plantable.false))
    c.prepare.ensures.asks
