use Rattle.ice_verify.proofs.DoingWell.{entered_well, tool_well}
use Rattle.ice_verify.proofs.plain.Plain.enter_programming.Goals as goal

pub returns-clause-does : goal.returns-clause-does
returns-clause-does c = λ part before s e good.
    tool_well _ c.open_flash.new.self c.args.self.now.core c.args.self.now.comparators c.okay.new.out.items before part _ c.open_flash.ensures
    (entered_well c.args.number c.args.self.now.tool c.args.self.now.core c.args.self.now.comparators c.args.out.now.items c.okay.new.out.items
    c.okay.ensures.sends part before s e good)
