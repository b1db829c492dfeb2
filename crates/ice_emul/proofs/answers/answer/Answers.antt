use Rattle.std.proofs.Common.{true, sym, ap, ◌∙◌, refl}
use Rattle.debug_spec.specs.Debugger.{Mode}
use Rattle.debug_spec.specs.Commands.{allowed}
use Rattle.flash_patch.specs.Asking.{seen}
use Rattle.ice_msg.specs.Reading.{asked}
use Rattle.ice_emul.proofs.Asking.{asking_nothing, allowed_asking}
use Rattle.ice_answer.proofs.Requests.{requested, not_allowed}
use Rattle.ice_emul.proofs.answers.answer.Goals as goal

pub returns-in-Err-clause-asks : goal.returns-in-Err-clause-asks
returns-in-Err-clause-asks g c =
    asking_nothing (seen g.F.Flash.words g.F.Flash.journal g.F.Flash.faults g.F.Flash.writes) _ _ _ _ _ refl
    (requested true c.args.request.now c.args.number _ _ _ c.in-Err.is (c.refuse_bad.ensures true c.args.tool.now c.args.job.now.core c.args.job.now.comparators))

pub returns-then-not-allowed-clause-asks : goal.returns-then-not-allowed-clause-asks
returns-then-not-allowed-clause-asks g c =
    asking_nothing (seen g.F.Flash.words g.F.Flash.journal g.F.Flash.faults g.F.Flash.writes) _ _ _ _ _ refl
    (not_allowed true c.args.request.now c.args.number c.in-Ok.command c.in-Ok.is c.args.tool.now c.args.job.now.core c.args.job.now.comparators
    c.args.out.now.items _ (ap (λ (m : Mode). allowed m (asked c.in-Ok.command)) (sym c.mode.ensures) ∙ sym c.allowed.ensures ∙ c.if-not-allowed.true)
    c.refuse.ensures.sends)

pub returns-else-not-allowed-clause-asks : goal.returns-else-not-allowed-clause-asks
returns-else-not-allowed-clause-asks g c =
    allowed_asking (seen g.F.Flash.words g.F.Flash.journal g.F.Flash.faults g.F.Flash.writes) c.args.request.now c.args.number c.in-Ok.command
    c.in-Ok.is c.args.tool.now c.args.job.now.core c.args.job.now.comparators c.args.out.now.items _ _ _
    (ap (λ (m : Mode). allowed m (asked c.in-Ok.command)) (sym c.mode.ensures) ∙ sym c.allowed.ensures ∙ c.if-not-allowed.false)
    c.carry_out.ensures.asks
