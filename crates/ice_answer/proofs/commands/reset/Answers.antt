use Rattle.std.proofs.Common.{refl}
use Rattle.part_spec.specs.Chip.{chip_of}
use Rattle.avr_spec.specs.Machine.{restarted}
use Rattle.line_spec.specs.Messages.{okay}
use Rattle.debug_spec.specs.Stop.{by_reset}
use Rattle.debug_spec.specs.Debugger.{Debugger, replied}
use Rattle.line_spec.specs.Messages.{response_body}
use Rattle.ice_answer.proofs.Doing.{changed_then_sent, told_behind}
use Rattle.ice_answer.proofs.commands.reset.Goals as goal

pub returns-clause-does : goal.returns-clause-does
returns-clause-does c = λ tool comparators part before s e.
    let t : Debugger = record s { machine = restarted s.machine } in
    let one = changed_then_sent c.args.number (response_body okay) c.args.out.now.items c.okay.new.out.items tool c.restart.new.self comparators c.okay.ensures.sends
    part before s t
    (record { tool = e.tool; core = c.restart.ensures.moves (chip_of part) s.machine e.core; comparators = e.comparators; sent = e.sent })
    (record { device = refl; launches = refl }) in
    told_behind by_reset c.pc.result c.okay.new.out.items c.tell.new.out.items tool c.restart.new.self comparators c.pc.ensures.pc c.tell.ensures part before s
    (replied c.args.number okay t) one
