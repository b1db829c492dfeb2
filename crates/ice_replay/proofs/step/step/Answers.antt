use Rattle.std.proofs.Common.{true, false, length, take, drop, sym, subst}
use Rattle.flash_patch.specs.Asking.{seen}
use Rattle.run_control.specs.declared.job.Job.{Job}
use Rattle.ice_recv.specs.Received.{Received}
use Rattle.ice_emul.specs.Taking.{IsIdle, NextStands, StaysOut, TakesOne, UsesUp}
use Rattle.ice_emul.specs.declared.emulator.Next.{Next}
use Rattle.ice_replay.specs.Steps.{Starts}
use Rattle.ice_replay.proofs.Stepping.{idle_step, answered_step, closed_step, launched_step, stopped_step, sent_nothing, some_not, spends_some, stopped_for}
use Rattle.ice_replay.proofs.step.step.Goals as goal

pub returns-in-Idle-clause-steps : goal.returns-in-Idle-clause-steps
returns-in-Idle-clause-steps g c = λ job pend kept.
    idle_step (seen g.F.Flash.words g.F.Flash.journal g.F.Flash.faults g.F.Flash.writes) g.F.Flash.part c.args.emulator.now c.take-taken.new.self c.args.runner.now job pend c.take-taken.result.next
    (take c.take-taken.result.used c.args.bytes.now) (drop c.take-taken.result.used c.args.bytes.now) c.take-taken.new.out.items
    c.args.sent.now.okay.items c.args.sent.now.event.items kept c.requires.listens c.take-taken.ensures.sound c.take-taken.ensures.stands
    c.take-taken.ensures.stays (c.take-taken.ensures.takes job kept.held).1
    c.in-Idle.is c.requires.empty.1 c.requires.empty.2

pub returns-in-Idle-clause-placed : goal.returns-in-Idle-clause-placed
returns-in-Idle-clause-placed g c =
    let k = c.requires.placed in
    let there = idle_step (seen g.F.Flash.words g.F.Flash.journal g.F.Flash.faults g.F.Flash.writes) g.F.Flash.part c.args.emulator.now c.take-taken.new.self c.args.runner.now k.0 k.1 c.take-taken.result.next
    (take c.take-taken.result.used c.args.bytes.now) (drop c.take-taken.result.used c.args.bytes.now) c.take-taken.new.out.items
    c.args.sent.now.okay.items c.args.sent.now.event.items k.2 c.requires.listens c.take-taken.ensures.sound c.take-taken.ensures.stands
    c.take-taken.ensures.stays (c.take-taken.ensures.takes k.0 k.2.held).1
    c.in-Idle.is c.requires.empty.1 c.requires.empty.2 in
    (there.job, there.pend, there.kept)

pub returns-in-Answered-clause-steps : goal.returns-in-Answered-clause-steps
returns-in-Answered-clause-steps g c = λ job pend kept.
    answered_step (seen g.F.Flash.words g.F.Flash.journal g.F.Flash.faults g.F.Flash.writes) g.F.Flash.part c.args.emulator.now c.take-taken.new.self c.args.runner.now job pend c.take-taken.result.next
    (take c.take-taken.result.used c.args.bytes.now) (drop c.take-taken.result.used c.args.bytes.now) c.take-taken.new.out.items
    c.args.sent.now.okay.items c.args.sent.now.event.items kept c.requires.listens c.take-taken.ensures.sound c.take-taken.ensures.stands
    c.take-taken.ensures.stays (c.take-taken.ensures.takes job kept.held).1
    c.in-Answered.is c.requires.empty.1 c.requires.empty.2

pub returns-in-Answered-clause-placed : goal.returns-in-Answered-clause-placed
returns-in-Answered-clause-placed g c =
    let k = c.requires.placed in
    let there = answered_step (seen g.F.Flash.words g.F.Flash.journal g.F.Flash.faults g.F.Flash.writes) g.F.Flash.part c.args.emulator.now c.take-taken.new.self c.args.runner.now k.0 k.1 c.take-taken.result.next
    (take c.take-taken.result.used c.args.bytes.now) (drop c.take-taken.result.used c.args.bytes.now) c.take-taken.new.out.items
    c.args.sent.now.okay.items c.args.sent.now.event.items k.2 c.requires.listens c.take-taken.ensures.sound c.take-taken.ensures.stands
    c.take-taken.ensures.stays (c.take-taken.ensures.takes k.0 k.2.held).1
    c.in-Answered.is c.requires.empty.1 c.requires.empty.2 in
    (there.job, there.pend, there.kept)

pub returns-in-Launch-clause-steps : goal.returns-in-Launch-clause-steps
returns-in-Launch-clause-steps g c = λ job pend kept.
    launched_step (seen g.F.Flash.words g.F.Flash.journal g.F.Flash.faults g.F.Flash.writes) g.F.Flash.part c.args.emulator.now c.take-taken.new.self c.args.runner.now job pend c.take-taken.result.next
    (take c.take-taken.result.used c.args.bytes.now) (drop c.take-taken.result.used c.args.bytes.now) c.take-taken.new.out.items
    c.start-came.new.okay.items c.start-came.new.event.items kept c.requires.listens c.take-taken.ensures.sound c.take-taken.ensures.stands
    c.take-taken.ensures.stays (c.take-taken.ensures.takes job kept.held).1
    c.in-Launch.job c.in-Launch.is c.start-came.result c.start-came.ensures.some
    c.start-came.new.emulator c.start-came.new.runner (subst (λ (j : Job g.row.F.Denot).
    Starts (seen g.F.Flash.words g.F.Flash.journal g.F.Flash.faults g.F.Flash.writes) g.F.Flash.part c.take-taken.new.self c.args.runner.now
    j c.start-came.new.okay.items c.start-came.new.event.items c.start-came.new.emulator c.start-came.new.runner) c.in-Launch.job-is
    c.start-came.ensures.starts) c.start-came.ensures.sound c.start-came.ensures.runner
    c.start-came.ensures.counts.0 c.start-came.ensures.counts.1 c.start-came.ensures.stops

pub returns-in-Launch-clause-placed : goal.returns-in-Launch-clause-placed
returns-in-Launch-clause-placed g c =
    let k = c.requires.placed in
    let there = launched_step (seen g.F.Flash.words g.F.Flash.journal g.F.Flash.faults g.F.Flash.writes) g.F.Flash.part c.args.emulator.now c.take-taken.new.self c.args.runner.now k.0 k.1 c.take-taken.result.next
    (take c.take-taken.result.used c.args.bytes.now) (drop c.take-taken.result.used c.args.bytes.now) c.take-taken.new.out.items
    c.start-came.new.okay.items c.start-came.new.event.items k.2 c.requires.listens c.take-taken.ensures.sound c.take-taken.ensures.stands
    c.take-taken.ensures.stays (c.take-taken.ensures.takes k.0 k.2.held).1
    c.in-Launch.job c.in-Launch.is c.start-came.result c.start-came.ensures.some
    c.start-came.new.emulator c.start-came.new.runner (subst (λ (j : Job g.row.F.Denot).
    Starts (seen g.F.Flash.words g.F.Flash.journal g.F.Flash.faults g.F.Flash.writes) g.F.Flash.part c.take-taken.new.self c.args.runner.now
    j c.start-came.new.okay.items c.start-came.new.event.items c.start-came.new.emulator c.start-came.new.runner) c.in-Launch.job-is
    c.start-came.ensures.starts) c.start-came.ensures.sound c.start-came.ensures.runner
    c.start-came.ensures.counts.0 c.start-came.ensures.counts.1 c.start-came.ensures.stops in
    (there.job, there.pend, there.kept)

pub returns-in-RaiseStop-clause-steps : goal.returns-in-RaiseStop-clause-steps
returns-in-RaiseStop-clause-steps g c = λ job pend kept.
    stopped_step (seen g.F.Flash.words g.F.Flash.journal g.F.Flash.faults g.F.Flash.writes) g.F.Flash.part c.args.emulator.now c.take-taken.new.self c.args.runner.now job pend c.take-taken.result.next
    (take c.take-taken.result.used c.args.bytes.now) (drop c.take-taken.result.used c.args.bytes.now) c.take-taken.new.out.items
    c.args.sent.now.okay.items c.stop-came.new.event.items kept c.requires.listens c.take-taken.ensures.sound c.take-taken.ensures.stands
    c.take-taken.ensures.stays (c.take-taken.ensures.takes job kept.held).1
    c.in-RaiseStop.is c.stop-came.result c.stop-came.ensures.some
    c.stop-came.new.emulator c.stop-came.new.runner c.stop-came.ensures.sound c.stop-came.ensures.home
    (record {
      sound = c.stop-came.ensures.runner;
      free = c.stop-came.ensures.free;
      counts = c.stop-came.ensures.counts.1;
      launches = c.stop-came.ensures.counts.0;
      stops = c.stop-came.ensures.stops;
    })
    (λ own is waits. c.stop-came.ensures.settles own pend is waits) c.requires.empty.1

pub returns-in-RaiseStop-clause-placed : goal.returns-in-RaiseStop-clause-placed
returns-in-RaiseStop-clause-placed g c =
    let k = c.requires.placed in
    let there = stopped_step (seen g.F.Flash.words g.F.Flash.journal g.F.Flash.faults g.F.Flash.writes) g.F.Flash.part c.args.emulator.now c.take-taken.new.self c.args.runner.now k.0 k.1 c.take-taken.result.next
    (take c.take-taken.result.used c.args.bytes.now) (drop c.take-taken.result.used c.args.bytes.now) c.take-taken.new.out.items
    c.args.sent.now.okay.items c.stop-came.new.event.items k.2 c.requires.listens c.take-taken.ensures.sound c.take-taken.ensures.stands
    c.take-taken.ensures.stays (c.take-taken.ensures.takes k.0 k.2.held).1
    c.in-RaiseStop.is c.stop-came.result c.stop-came.ensures.some
    c.stop-came.new.emulator c.stop-came.new.runner c.stop-came.ensures.sound c.stop-came.ensures.home
    (record {
      sound = c.stop-came.ensures.runner;
      free = c.stop-came.ensures.free;
      counts = c.stop-came.ensures.counts.1;
      launches = c.stop-came.ensures.counts.0;
      stops = c.stop-came.ensures.stops;
    })
    (λ own is waits. c.stop-came.ensures.settles own k.1 is waits) c.requires.empty.1 in
    (there.job, there.pend, there.kept)

pub returns-in-Closed-clause-steps : goal.returns-in-Closed-clause-steps
returns-in-Closed-clause-steps g c = λ job pend kept.
    closed_step (seen g.F.Flash.words g.F.Flash.journal g.F.Flash.faults g.F.Flash.writes) g.F.Flash.part c.args.emulator.now c.take-taken.new.self c.args.runner.now job pend c.take-taken.result.next
    (take c.take-taken.result.used c.args.bytes.now) (drop c.take-taken.result.used c.args.bytes.now) c.take-taken.new.out.items
    c.args.sent.now.okay.items c.args.sent.now.event.items kept c.requires.listens c.take-taken.ensures.sound c.take-taken.ensures.stands
    c.take-taken.ensures.stays (c.take-taken.ensures.takes job kept.held).1
    c.in-Closed.restored c.in-Closed.is c.requires.empty.1 c.requires.empty.2

pub returns-in-Closed-clause-placed : goal.returns-in-Closed-clause-placed
returns-in-Closed-clause-placed g c =
    let k = c.requires.placed in
    let there = closed_step (seen g.F.Flash.words g.F.Flash.journal g.F.Flash.faults g.F.Flash.writes) g.F.Flash.part c.args.emulator.now c.take-taken.new.self c.args.runner.now k.0 k.1 c.take-taken.result.next
    (take c.take-taken.result.used c.args.bytes.now) (drop c.take-taken.result.used c.args.bytes.now) c.take-taken.new.out.items
    c.args.sent.now.okay.items c.args.sent.now.event.items k.2 c.requires.listens c.take-taken.ensures.sound c.take-taken.ensures.stands
    c.take-taken.ensures.stays (c.take-taken.ensures.takes k.0 k.2.held).1
    c.in-Closed.restored c.in-Closed.is c.requires.empty.1 c.requires.empty.2 in
    (there.job, there.pend, there.kept)

pub returns-in-Launch-clause-spends : goal.returns-in-Launch-clause-spends
returns-in-Launch-clause-spends g c = spends_some c.start-came.result (length c.args.bytes.now) c.take-taken.result.used c.args.emulator.now
    c.start-came.new.emulator c.start-came.ensures.some
    (subst (λ (r : Received). TakesOne c.take-taken.result.used c.args.emulator.now.receiver.held r.held)
    (sym c.start-came.ensures.receiver)
    (subst (λ (n : Next g.row.F.Denot). UsesUp n (length c.args.bytes.now) c.take-taken.result.used c.args.emulator.now.receiver c.take-taken.new.self)
    c.in-Launch.is c.take-taken.ensures.uses))

pub returns-in-RaiseStop-clause-spends : goal.returns-in-RaiseStop-clause-spends
returns-in-RaiseStop-clause-spends g c = spends_some c.stop-came.result (length c.args.bytes.now) c.take-taken.result.used c.args.emulator.now
    c.stop-came.new.emulator c.stop-came.ensures.some
    (subst (λ (r : Received). TakesOne c.take-taken.result.used c.args.emulator.now.receiver.held r.held)
    (sym c.stop-came.ensures.receiver)
    (subst (λ (n : Next g.row.F.Denot). UsesUp n (length c.args.bytes.now) c.take-taken.result.used c.args.emulator.now.receiver c.take-taken.new.self)
    c.in-RaiseStop.is c.take-taken.ensures.uses))

pub returns-in-Launch-clause-stopped : goal.returns-in-Launch-clause-stopped
returns-in-Launch-clause-stopped g c =
    stopped_for c.start-came.result false c.args.emulator.now.tool.mode
    (subst (λ (n : Next g.row.F.Denot). StaysOut n c.args.emulator.now.tool.mode c.take-taken.new.self.tool.mode) c.in-Launch.is
    c.take-taken.ensures.stays)

pub returns-in-RaiseStop-clause-stopped : goal.returns-in-RaiseStop-clause-stopped
returns-in-RaiseStop-clause-stopped g c =
    let stood = subst (λ (n : Next g.row.F.Denot). NextStands (seen g.F.Flash.words g.F.Flash.journal g.F.Flash.faults g.F.Flash.writes)
    g.F.Flash.part n c.args.emulator.now c.take-taken.new.self) c.in-RaiseStop.is c.take-taken.ensures.stands in
    stopped_for c.stop-came.result true c.args.emulator.now.tool.mode stood.2

pub returns-in-Closed-clause-stopped : goal.returns-in-Closed-clause-stopped
returns-in-Closed-clause-stopped g c =
    subst (λ (n : Next g.row.F.Denot). StaysOut n c.args.emulator.now.tool.mode c.take-taken.new.self.tool.mode) c.in-Closed.is
    c.take-taken.ensures.stays

pub returns-in-Idle-clause-still : goal.returns-in-Idle-clause-still
returns-in-Idle-clause-still g c = λ idle.
    sent_nothing c.take-taken.new.out.items c.args.sent.now.okay.items c.args.sent.now.event.items
    (c.take-taken.ensures.still (subst (λ (n : Next g.row.F.Denot). IsIdle n) (sym c.in-Idle.is) tt)) c.requires.empty.1 c.requires.empty.2

pub returns-in-Launch-clause-still : goal.returns-in-Launch-clause-still
returns-in-Launch-clause-still g c = λ idle. absurd (some_not c.start-came.result c.start-came.ensures.some idle)

pub returns-in-RaiseStop-clause-still : goal.returns-in-RaiseStop-clause-still
returns-in-RaiseStop-clause-still g c = λ idle. absurd (some_not c.stop-came.result c.stop-came.ensures.some idle)
