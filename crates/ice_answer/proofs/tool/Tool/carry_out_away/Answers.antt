use Rattle.ice_answer.proofs.Doing.{commanded_beside}
use Rattle.ice_answer.proofs.tool.Tool.carry_out_away.Goals as goal

pub returns-in-SignOff-clause-does : goal.returns-in-SignOff-clause-does
returns-in-SignOff-clause-does c = λ planted.
    commanded_beside planted c.args.command.now _ c.args.number _ _ _ _ c.in-SignOff.is c.sign_off_away.ensures.does

pub returns-in-ForcedStop-clause-does : goal.returns-in-ForcedStop-clause-does
returns-in-ForcedStop-clause-does c = λ planted.
    commanded_beside planted c.args.command.now _ c.args.number _ _ _ _ c.in-ForcedStop.is c.force_stop.ensures.does

pub returns-in-GetSignOn-clause-does : goal.returns-in-GetSignOn-clause-does
returns-in-GetSignOn-clause-does c = λ planted.
    commanded_beside planted c.args.command.now _ c.args.number _ _ _ _ c.in-GetSignOn.is (c.sign_on.ensures c.args.self.now)

pub returns-in-SetParameter-clause-does : goal.returns-in-SetParameter-clause-does
returns-in-SetParameter-clause-does c = λ planted.
    commanded_beside planted c.args.command.now _ c.args.number _ _ _ _ c.in-SetParameter.is c.set_parameter.ensures.does

pub returns-in-GetParameter-clause-does : goal.returns-in-GetParameter-clause-does
returns-in-GetParameter-clause-does c = λ planted.
    commanded_beside planted c.args.command.now _ c.args.number _ _ _ _ c.in-GetParameter.is c.get_parameter.ensures
