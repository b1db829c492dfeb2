use Rattle.std.proofs.Common.{Some, sym, ap, ◌∙◌}
use Rattle.part_spec.specs.Chip.{chip_of}
use Rattle.line_spec.specs.Messages.{refused, response_body}
use Rattle.line_spec.specs.declared.refusal.Refusal.TheVariants.{IllegalBreakpoint}
use Rattle.debug_spec.specs.Patch.{plantable}
use Rattle.debug_spec.specs.Running.{prepared}
use Rattle.debug_spec.specs.Breakpoints.{no_breakpoint}
use Rattle.debug_spec.specs.Commands.{run_prepared}
use Rattle.ice_answer.specs.Kept.{ToolState}
use Rattle.ice_answer.proofs.Doing.{yes_if, no_if}
use Rattle.ice_verify.specs.Standing.{at_of}
use Rattle.ice_verify.proofs.DoingWell.{same_well, sent_well, well_in_words}
use Rattle.ice_verify.proofs.plain.Plain.run_to.Goals as goal

pub returns-then-not-plantable-clause-does : goal.returns-then-not-plantable-clause-does
returns-then-not-plantable-clause-does c = λ part before s e good.
    well_in_words part before (at_of c.args.self.now c.refuse.new.out.items) (no_breakpoint c.args.number s)
    (run_prepared (chip_of part) c.args.number c.args.address s)
    (no_if (plantable (chip_of part) s.prog c.args.address) (prepared (chip_of part) c.args.number (Some c.args.address) s)
    (no_breakpoint c.args.number s)
    (ap (λ (k : ToolState). plantable (chip_of k.plan.part) k.plan.prog c.args.address) (sym e.tool) ∙ sym c.plantable.ensures ∙
    c.if-not-plantable.true))
    (sent_well c.args.number (response_body (refused IllegalBreakpoint)) c.args.out.now.items c.refuse.new.out.items c.args.self.now.tool
    c.args.self.now.core c.args.self.now.comparators c.refuse.ensures.sends part before s e good)

pub returns-clause-does : goal.returns-clause-does
returns-clause-does c =
    same_well (λ q. prepared q c.args.number (Some c.args.address)) (λ q. run_prepared q c.args.number c.args.address) _ _
    (λ part before s e good. yes_if (plantable (chip_of part) s.prog c.args.address) (prepared (chip_of part) c.args.number (Some c.args.address) s)
    (no_breakpoint c.args.number s)
    (ap (λ (k : ToolState). plantable (chip_of k.plan.part) k.plan.prog c.args.address) (sym e.tool) ∙ sym c.plantable.ensures ∙
    c.if-not-plantable.false))
    (c.prepare.ensures.does c.args.out.now.items)
