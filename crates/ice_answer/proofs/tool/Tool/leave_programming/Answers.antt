use Rattle.std.proofs.Common.{ap, ◌∙◌, refl}
use Rattle.part_spec.specs.Chip.{chip_of}
use Rattle.avr_spec.specs.Machine.{restarted}
use Rattle.line_spec.specs.Messages.{okay, response_body}
use Rattle.debug_spec.specs.Debugger.{Debugger, stopped}
use Rattle.ice_answer.specs.Kept.{ToolState}
use Rattle.ice_answer.proofs.Doing.{changed_then_sent}
use Rattle.ice_answer.proofs.tool.Tool.leave_programming.Goals as goal

pub returns-clause-does : goal.returns-clause-does
returns-clause-does c = λ comparators part before s e.
    let t : Debugger = record s { mode = stopped; machine = restarted s.machine } in
    changed_then_sent c.args.number (response_body okay) c.args.out.now.items c.okay.new.out.items _ c.restart.new.self comparators
    c.okay.ensures.sends part before s t
    (record {
      tool = ap (λ (k : ToolState). record k { mode = stopped }) (c.self.view_is ∙ e.tool);
      core = c.restart.ensures.moves (chip_of part) s.machine e.core;
      comparators = e.comparators;
      sent = e.sent;
    })
    (record { device = refl; launches = refl })
