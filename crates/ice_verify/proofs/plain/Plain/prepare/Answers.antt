use Rattle.ice_verify.proofs.DoingWell.{prepared_well, tool_well}
use Rattle.ice_verify.proofs.plain.Plain.prepare.Goals as goal

pub returns-clause-does : goal.returns-clause-does
returns-clause-does c = λ sent part before s e good.
    tool_well _ c.prepare.new.self c.args.self.now.core c.args.self.now.comparators sent before part _ c.prepare.ensures
    (prepared_well c.args.number c.args.run_to c.args.self.now.tool c.args.self.now.core c.args.self.now.comparators sent part before s e good)
