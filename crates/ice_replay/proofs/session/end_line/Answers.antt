use Rattle.flash_patch.specs.Asking.{seen}
use Rattle.ice_replay.proofs.Closing.{closed_line, left_line}
use Rattle.ice_replay.proofs.session.end_line.Goals as goal

pub returns-in-Closed-clause-placed : goal.returns-in-Closed-clause-placed
returns-in-Closed-clause-placed g c =
    let k = c.requires.placed in
    let there = closed_line (seen g.F.Flash.words g.F.Flash.journal g.F.Flash.faults g.F.Flash.writes) g.F.Flash.part c.args.emulator.now c.take.new.self c.args.runner.now k.0 k.1 c.take.result.next c.take.new.out.items k.2 c.take.ensures.sound
    c.take.ensures.stands c.take.ensures.stays (c.take.ensures.takes k.0 k.2.held).1
    c.in-Closed.restored c.in-Closed.is in
    (there.job, there.pend, there.kept)

pub returns-in-Closed-clause-line : goal.returns-in-Closed-clause-line
returns-in-Closed-clause-line g c = λ job pend kept.
    closed_line (seen g.F.Flash.words g.F.Flash.journal g.F.Flash.faults g.F.Flash.writes) g.F.Flash.part c.args.emulator.now c.take.new.self c.args.runner.now job pend c.take.result.next c.take.new.out.items kept c.take.ensures.sound
    c.take.ensures.stands c.take.ensures.stays (c.take.ensures.takes job kept.held).1
    c.in-Closed.restored c.in-Closed.is

pub returns-in-Closed-stop-clause-placed : goal.returns-in-Closed-stop-clause-placed
returns-in-Closed-stop-clause-placed g c =
    let k = c.requires.placed in
    let there = left_line (seen g.F.Flash.words g.F.Flash.journal g.F.Flash.faults g.F.Flash.writes) g.F.Flash.part c.args.emulator.now c.take.new.self c.args.runner.now k.0 k.1 c.take.result.next c.take.new.out.items k.2 c.take.ensures.sound
    c.take.ensures.stands c.take.ensures.stays (c.take.ensures.takes k.0 k.2.held).1
    c.in-RaiseStop.is c.stop.new.event.items c.stop.new.emulator c.stop.new.runner c.stop.ensures.sound c.stop.ensures.home
    (record {
      sound = c.stop.ensures.runner;
      free = c.stop.ensures.free;
      counts = c.stop.ensures.counts.1;
      launches = c.stop.ensures.counts.0;
      stops = c.stop.ensures.stops;
    })
    (λ own is waits. c.stop.ensures.settles own k.1 is waits) in
    (there.job, there.pend, there.kept)

pub returns-in-Closed-stop-clause-line : goal.returns-in-Closed-stop-clause-line
returns-in-Closed-stop-clause-line g c = λ job pend kept.
    left_line (seen g.F.Flash.words g.F.Flash.journal g.F.Flash.faults g.F.Flash.writes) g.F.Flash.part c.args.emulator.now c.take.new.self c.args.runner.now job pend c.take.result.next c.take.new.out.items kept c.take.ensures.sound
    c.take.ensures.stands c.take.ensures.stays (c.take.ensures.takes job kept.held).1
    c.in-RaiseStop.is c.stop.new.event.items c.stop.new.emulator c.stop.new.runner c.stop.ensures.sound c.stop.ensures.home
    (record {
      sound = c.stop.ensures.runner;
      free = c.stop.ensures.free;
      counts = c.stop.ensures.counts.1;
      launches = c.stop.ensures.counts.0;
      stops = c.stop.ensures.stops;
    })
    (λ own is waits. c.stop.ensures.settles own pend is waits)
