use Rattle.std.proofs.Common.{sym, ap, ◌∙◌}
use Rattle.debug_spec.specs.Debugger.{Mode}
use Rattle.debug_spec.specs.Commands.{allowed}
use Rattle.ice_msg.specs.Reading.{asked}
use Rattle.ice_answer.proofs.Requests.{requested, allowed_here}
use Rattle.ice_answer.proofs.tool.Tool.answer_away.Goals as goal

pub returns-then-allowed-clause-does : goal.returns-then-allowed-clause-does
returns-then-allowed-clause-does c = λ planted core comparators.
    allowed_here planted c.args.request.now c.args.number c.in-Ok.command c.in-Ok.is c.args.self.now core comparators c.args.out.now.items _
    (ap (λ (m : Mode). allowed m (asked c.in-Ok.command)) c.requires.running ∙ sym c.allowed.ensures ∙ c.if-allowed.true)
    (c.carry_out_away.ensures.does planted core comparators)

pub returns-in-Err-clause-does : goal.returns-in-Err-clause-does
returns-in-Err-clause-does c = λ planted core comparators.
    requested planted c.args.request.now c.args.number _ _ _ c.in-Err.is (c.refuse_bad.ensures planted c.args.self.now core comparators)
