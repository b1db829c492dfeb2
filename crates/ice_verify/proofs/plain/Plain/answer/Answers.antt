use Rattle.std.proofs.Common.{false, sym, ap, ◌∙◌}
use Rattle.debug_spec.specs.Debugger.{Mode}
use Rattle.debug_spec.specs.Commands.{allowed, answered}
use Rattle.ice_msg.specs.Reading.{asked}
use Rattle.ice_answer.specs.Values.{request_of}
use Rattle.ice_answer.proofs.Requests.{requested}
use Rattle.ice_verify.proofs.DoingWell.{well, allowed_well}
use Rattle.ice_verify.proofs.plain.Plain.answer.Goals as goal

pub returns-in-Err-clause-does : goal.returns-in-Err-clause-does
returns-in-Err-clause-does c =
    well (λ part. answered false part c.args.number (request_of c.args.request.now)) _ _
    (requested false c.args.request.now c.args.number _ _ _ c.in-Err.is
    (c.refuse_bad.ensures false c.args.self.now.tool c.args.self.now.core c.args.self.now.comparators))

pub returns-else-not-allowed-clause-does : goal.returns-else-not-allowed-clause-does
returns-else-not-allowed-clause-does c =
    allowed_well c.args.request.now c.args.number c.in-Ok.command c.in-Ok.is c.args.self.now.tool c.args.self.now.core c.args.self.now.comparators
    c.args.out.now.items _
    (ap (λ (m : Mode). allowed m (asked c.in-Ok.command)) (sym c.mode.ensures) ∙ sym c.allowed.ensures ∙ c.if-not-allowed.false)
    c.carry_out.ensures.does
