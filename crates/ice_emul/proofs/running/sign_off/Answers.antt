use Rattle.std.proofs.Common.{true, ap, sym, ◌∙◌}
use Rattle.part_spec.specs.Chip.{chip_of}
use Rattle.line_spec.specs.Messages.{response_body, okay, sign_off}
use Rattle.debug_spec.specs.Debugger.{replied}
use Rattle.debug_spec.specs.Running.{restored}
use Rattle.debug_spec.specs.Commands.{carried_out}
use Rattle.flash_patch.specs.Asking.{seen}
use Rattle.ice_answer.specs.Kept.{ToolState, takes_requests}
use Rattle.ice_answer.proofs.Doing.{does-send}
use Rattle.ice_emul.proofs.Asking.{then_asking}
use Rattle.ice_emul.proofs.Home.{left_at_home}
use Rattle.ice_emul.proofs.running.sign_off.Goals as goal

pub returns-clause-asks : goal.returns-clause-asks
returns-clause-asks g c =
    then_asking (seen g.F.Flash.words g.F.Flash.journal g.F.Flash.faults g.F.Flash.writes) (λ part. replied c.args.number okay) (λ part. restored part)
    (λ part. carried_out true part c.args.number sign_off) _ _ _ _ _
    (λ part before s e. left_at_home (chip_of part) s.mode (replied c.args.number okay s) (ap (λ (k : ToolState). takes_requests k.mode) (sym e.tool) ∙ c.requires.rests))
    (does-send c.args.number (response_body okay) c.args.out.now.items c.okay.new.out.items c.args.tool.now c.args.job.now.core c.args.job.now.comparators
    c.okay.ensures.sends)
    (c.close.ensures.asks c.okay.new.out.items)
