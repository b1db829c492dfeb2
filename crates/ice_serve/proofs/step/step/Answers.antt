use Rattle.std.proofs.Common.{◌+◌, ◌++◌, ℕ, List, length, take, drop, sym, ap, subst, ◌∙◌, arith}
use Rattle.std.proofs.lemmas.List.{drop_all}
use Rattle.flash_patch.specs.Asking.{seen}
use Rattle.run_control.specs.declared.job.Job.{Job}
use Rattle.ice_serve.specs.Keeping.{seen_as}
use Rattle.ice_serve.specs.Steps.{Starts, Steps}
use Rattle.ice_serve.specs.declared.step.Came.{Came}
use Rattle.ice_serve.proofs.Stepping.{deaf_step, idle_step, answered_step, closed_step, raised_step, launched_step}
use Rattle.ice_serve.proofs.step.step.Goals as goal

pub returns-in-Idle-clause-steps : goal.returns-in-Idle-clause-steps
returns-in-Idle-clause-steps g c = λ job kept.
    idle_step (seen g.F.Flash.words g.F.Flash.journal g.F.Flash.faults g.F.Flash.writes) g.F.Flash.part c.args.emulator.now c.take-taken.new.self job (seen_as (g.X.Runner.is_out c.args.runner.now) (g.X.Runner.raised c.args.runner.now) (g.X.Runner.may_give c.args.runner.now) (g.X.Runner.launches c.args.runner.now) (g.X.Runner.collects c.args.runner.now) (g.X.Runner.faults c.args.runner.now)) c.take-taken.result.next
    (take c.take-taken.result.used c.args.bytes.now) (drop c.take-taken.result.used c.args.bytes.now) c.take-taken.new.out.items c.args.sent.now.okay.items kept
    c.take-taken.ensures.sound c.take-taken.ensures.stands c.take-taken.ensures.stays (c.take-taken.ensures.takes job kept.held).1 c.in-Idle.is c.requires.empty.1

pub returns-in-Idle-clause-placed : goal.returns-in-Idle-clause-placed
returns-in-Idle-clause-placed g c =
    let k = c.requires.placed in
    let there = idle_step (seen g.F.Flash.words g.F.Flash.journal g.F.Flash.faults g.F.Flash.writes) g.F.Flash.part c.args.emulator.now c.take-taken.new.self k.0 (seen_as (g.X.Runner.is_out c.args.runner.now) (g.X.Runner.raised c.args.runner.now) (g.X.Runner.may_give c.args.runner.now) (g.X.Runner.launches c.args.runner.now) (g.X.Runner.collects c.args.runner.now) (g.X.Runner.faults c.args.runner.now)) c.take-taken.result.next
    (take c.take-taken.result.used c.args.bytes.now) (drop c.take-taken.result.used c.args.bytes.now) c.take-taken.new.out.items c.args.sent.now.okay.items k.1
    c.take-taken.ensures.sound c.take-taken.ensures.stands c.take-taken.ensures.stays (c.take-taken.ensures.takes k.0 k.1.held).1 c.in-Idle.is c.requires.empty.1 in
    (there.job_then, there.kept)

pub returns-in-Answered-clause-steps : goal.returns-in-Answered-clause-steps
returns-in-Answered-clause-steps g c = λ job kept.
    answered_step (seen g.F.Flash.words g.F.Flash.journal g.F.Flash.faults g.F.Flash.writes) g.F.Flash.part c.args.emulator.now c.take-taken.new.self job (seen_as (g.X.Runner.is_out c.args.runner.now) (g.X.Runner.raised c.args.runner.now) (g.X.Runner.may_give c.args.runner.now) (g.X.Runner.launches c.args.runner.now) (g.X.Runner.collects c.args.runner.now) (g.X.Runner.faults c.args.runner.now)) c.take-taken.result.next
    (take c.take-taken.result.used c.args.bytes.now) (drop c.take-taken.result.used c.args.bytes.now) c.take-taken.new.out.items c.args.sent.now.okay.items kept
    c.take-taken.ensures.sound c.take-taken.ensures.stands c.take-taken.ensures.stays (c.take-taken.ensures.takes job kept.held).1 c.in-Answered.is c.requires.empty.1

pub returns-in-Answered-clause-placed : goal.returns-in-Answered-clause-placed
returns-in-Answered-clause-placed g c =
    let k = c.requires.placed in
    let there = answered_step (seen g.F.Flash.words g.F.Flash.journal g.F.Flash.faults g.F.Flash.writes) g.F.Flash.part c.args.emulator.now c.take-taken.new.self k.0 (seen_as (g.X.Runner.is_out c.args.runner.now) (g.X.Runner.raised c.args.runner.now) (g.X.Runner.may_give c.args.runner.now) (g.X.Runner.launches c.args.runner.now) (g.X.Runner.collects c.args.runner.now) (g.X.Runner.faults c.args.runner.now)) c.take-taken.result.next
    (take c.take-taken.result.used c.args.bytes.now) (drop c.take-taken.result.used c.args.bytes.now) c.take-taken.new.out.items c.args.sent.now.okay.items k.1
    c.take-taken.ensures.sound c.take-taken.ensures.stands c.take-taken.ensures.stays (c.take-taken.ensures.takes k.0 k.1.held).1 c.in-Answered.is c.requires.empty.1 in
    (there.job_then, there.kept)

pub returns-in-Closed-clause-steps : goal.returns-in-Closed-clause-steps
returns-in-Closed-clause-steps g c = λ job kept.
    closed_step (seen g.F.Flash.words g.F.Flash.journal g.F.Flash.faults g.F.Flash.writes) g.F.Flash.part c.args.emulator.now c.take-taken.new.self job (seen_as (g.X.Runner.is_out c.args.runner.now) (g.X.Runner.raised c.args.runner.now) (g.X.Runner.may_give c.args.runner.now) (g.X.Runner.launches c.args.runner.now) (g.X.Runner.collects c.args.runner.now) (g.X.Runner.faults c.args.runner.now)) c.take-taken.result.next
    (take c.take-taken.result.used c.args.bytes.now) (drop c.take-taken.result.used c.args.bytes.now) c.take-taken.new.out.items c.args.sent.now.okay.items kept
    c.take-taken.ensures.sound c.take-taken.ensures.stands c.take-taken.ensures.stays (c.take-taken.ensures.takes job kept.held).1 c.in-Closed.restored c.in-Closed.is c.requires.empty.1

pub returns-in-Closed-clause-placed : goal.returns-in-Closed-clause-placed
returns-in-Closed-clause-placed g c =
    let k = c.requires.placed in
    let there = closed_step (seen g.F.Flash.words g.F.Flash.journal g.F.Flash.faults g.F.Flash.writes) g.F.Flash.part c.args.emulator.now c.take-taken.new.self k.0 (seen_as (g.X.Runner.is_out c.args.runner.now) (g.X.Runner.raised c.args.runner.now) (g.X.Runner.may_give c.args.runner.now) (g.X.Runner.launches c.args.runner.now) (g.X.Runner.collects c.args.runner.now) (g.X.Runner.faults c.args.runner.now)) c.take-taken.result.next
    (take c.take-taken.result.used c.args.bytes.now) (drop c.take-taken.result.used c.args.bytes.now) c.take-taken.new.out.items c.args.sent.now.okay.items k.1
    c.take-taken.ensures.sound c.take-taken.ensures.stands c.take-taken.ensures.stays (c.take-taken.ensures.takes k.0 k.1.held).1 c.in-Closed.restored c.in-Closed.is c.requires.empty.1 in
    (there.job_then, there.kept)

pub returns-in-RaiseStop-clause-steps : goal.returns-in-RaiseStop-clause-steps
returns-in-RaiseStop-clause-steps g c = λ job kept.
    raised_step (seen g.F.Flash.words g.F.Flash.journal g.F.Flash.faults g.F.Flash.writes) g.F.Flash.part c.args.emulator.now c.take-taken.new.self job (seen_as (g.X.Runner.is_out c.args.runner.now) (g.X.Runner.raised c.args.runner.now) (g.X.Runner.may_give c.args.runner.now) (g.X.Runner.launches c.args.runner.now) (g.X.Runner.collects c.args.runner.now) (g.X.Runner.faults c.args.runner.now)) c.take-taken.result.next
    (take c.take-taken.result.used c.args.bytes.now) (drop c.take-taken.result.used c.args.bytes.now) c.take-taken.new.out.items c.args.sent.now.okay.items kept
    c.take-taken.ensures.sound c.take-taken.ensures.stands c.take-taken.ensures.stays (c.take-taken.ensures.takes job kept.held).1 c.in-RaiseStop.is c.requires.empty.1 (seen_as (g.X.Runner.is_out c.raise_stop.new.self) (g.X.Runner.raised c.raise_stop.new.self) (g.X.Runner.may_give c.raise_stop.new.self) (g.X.Runner.launches c.raise_stop.new.self) (g.X.Runner.collects c.raise_stop.new.self) (g.X.Runner.faults c.raise_stop.new.self)) c.raise_stop.ensures.out c.raise_stop.ensures.ends c.raise_stop.ensures.counts.0 c.raise_stop.ensures.counts.1 c.raise_stop.ensures.faults

pub returns-in-RaiseStop-clause-placed : goal.returns-in-RaiseStop-clause-placed
returns-in-RaiseStop-clause-placed g c =
    let k = c.requires.placed in
    let there = raised_step (seen g.F.Flash.words g.F.Flash.journal g.F.Flash.faults g.F.Flash.writes) g.F.Flash.part c.args.emulator.now c.take-taken.new.self k.0 (seen_as (g.X.Runner.is_out c.args.runner.now) (g.X.Runner.raised c.args.runner.now) (g.X.Runner.may_give c.args.runner.now) (g.X.Runner.launches c.args.runner.now) (g.X.Runner.collects c.args.runner.now) (g.X.Runner.faults c.args.runner.now)) c.take-taken.result.next
    (take c.take-taken.result.used c.args.bytes.now) (drop c.take-taken.result.used c.args.bytes.now) c.take-taken.new.out.items c.args.sent.now.okay.items k.1
    c.take-taken.ensures.sound c.take-taken.ensures.stands c.take-taken.ensures.stays (c.take-taken.ensures.takes k.0 k.1.held).1 c.in-RaiseStop.is c.requires.empty.1 (seen_as (g.X.Runner.is_out c.raise_stop.new.self) (g.X.Runner.raised c.raise_stop.new.self) (g.X.Runner.may_give c.raise_stop.new.self) (g.X.Runner.launches c.raise_stop.new.self) (g.X.Runner.collects c.raise_stop.new.self) (g.X.Runner.faults c.raise_stop.new.self)) c.raise_stop.ensures.out c.raise_stop.ensures.ends c.raise_stop.ensures.counts.0 c.raise_stop.ensures.counts.1 c.raise_stop.ensures.faults in
    (there.job_then, there.kept)

pub returns-in-Launch-clause-steps : goal.returns-in-Launch-clause-steps
returns-in-Launch-clause-steps g c = λ job kept.
    subst (λ (x : Came). Steps (seen g.F.Flash.words g.F.Flash.journal g.F.Flash.faults g.F.Flash.writes) g.F.Flash.part x c.args.emulator.now job (seen_as (g.X.Runner.is_out c.args.runner.now) (g.X.Runner.raised c.args.runner.now) (g.X.Runner.may_give c.args.runner.now) (g.X.Runner.launches c.args.runner.now) (g.X.Runner.collects c.args.runner.now) (g.X.Runner.faults c.args.runner.now))
    c.args.bytes.now c.take-taken.result.used (c.take-taken.new.out.items ++ c.start-came.new.okay.items) c.start-came.new.emulator (seen_as (g.X.Runner.is_out c.start-came.new.runner) (g.X.Runner.raised c.start-came.new.runner) (g.X.Runner.may_give c.start-came.new.runner) (g.X.Runner.launches c.start-came.new.runner) (g.X.Runner.collects c.start-came.new.runner) (g.X.Runner.faults c.start-came.new.runner)))
    (sym c.start-came.ensures.came)
    (launched_step (seen g.F.Flash.words g.F.Flash.journal g.F.Flash.faults g.F.Flash.writes) g.F.Flash.part c.args.emulator.now c.take-taken.new.self job (seen_as (g.X.Runner.is_out c.args.runner.now) (g.X.Runner.raised c.args.runner.now) (g.X.Runner.may_give c.args.runner.now) (g.X.Runner.launches c.args.runner.now) (g.X.Runner.collects c.args.runner.now) (g.X.Runner.faults c.args.runner.now)) c.take-taken.result.next
    (take c.take-taken.result.used c.args.bytes.now) (drop c.take-taken.result.used c.args.bytes.now) c.take-taken.new.out.items c.start-came.new.okay.items kept
    c.take-taken.ensures.sound c.take-taken.ensures.stands c.take-taken.ensures.stays (c.take-taken.ensures.takes job kept.held).1 c.in-Launch.job c.in-Launch.is c.start-came.new.emulator (seen_as (g.X.Runner.is_out c.start-came.new.runner) (g.X.Runner.raised c.start-came.new.runner) (g.X.Runner.may_give c.start-came.new.runner) (g.X.Runner.launches c.start-came.new.runner) (g.X.Runner.collects c.start-came.new.runner) (g.X.Runner.faults c.start-came.new.runner)) c.start-came.ensures.emulator (subst (λ (j : Job g.row.F.Denot). Starts (seen g.F.Flash.words g.F.Flash.journal g.F.Flash.faults g.F.Flash.writes) g.F.Flash.part c.take-taken.new.self j (seen_as (g.X.Runner.is_out c.args.runner.now) (g.X.Runner.raised c.args.runner.now) (g.X.Runner.may_give c.args.runner.now) (g.X.Runner.launches c.args.runner.now) (g.X.Runner.collects c.args.runner.now) (g.X.Runner.faults c.args.runner.now)) c.start-came.new.okay.items c.start-came.new.emulator (seen_as (g.X.Runner.is_out c.start-came.new.runner) (g.X.Runner.raised c.start-came.new.runner) (g.X.Runner.may_give c.start-came.new.runner) (g.X.Runner.launches c.start-came.new.runner) (g.X.Runner.collects c.start-came.new.runner) (g.X.Runner.faults c.start-came.new.runner))) c.in-Launch.job-is c.start-came.ensures.starts))

pub returns-in-Launch-clause-placed : goal.returns-in-Launch-clause-placed
returns-in-Launch-clause-placed g c =
    let k = c.requires.placed in
    let there = launched_step (seen g.F.Flash.words g.F.Flash.journal g.F.Flash.faults g.F.Flash.writes) g.F.Flash.part c.args.emulator.now c.take-taken.new.self k.0 (seen_as (g.X.Runner.is_out c.args.runner.now) (g.X.Runner.raised c.args.runner.now) (g.X.Runner.may_give c.args.runner.now) (g.X.Runner.launches c.args.runner.now) (g.X.Runner.collects c.args.runner.now) (g.X.Runner.faults c.args.runner.now)) c.take-taken.result.next
    (take c.take-taken.result.used c.args.bytes.now) (drop c.take-taken.result.used c.args.bytes.now) c.take-taken.new.out.items c.start-came.new.okay.items k.1
    c.take-taken.ensures.sound c.take-taken.ensures.stands c.take-taken.ensures.stays (c.take-taken.ensures.takes k.0 k.1.held).1 c.in-Launch.job c.in-Launch.is c.start-came.new.emulator (seen_as (g.X.Runner.is_out c.start-came.new.runner) (g.X.Runner.raised c.start-came.new.runner) (g.X.Runner.may_give c.start-came.new.runner) (g.X.Runner.launches c.start-came.new.runner) (g.X.Runner.collects c.start-came.new.runner) (g.X.Runner.faults c.start-came.new.runner)) c.start-came.ensures.emulator (subst (λ (j : Job g.row.F.Denot). Starts (seen g.F.Flash.words g.F.Flash.journal g.F.Flash.faults g.F.Flash.writes) g.F.Flash.part c.take-taken.new.self j (seen_as (g.X.Runner.is_out c.args.runner.now) (g.X.Runner.raised c.args.runner.now) (g.X.Runner.may_give c.args.runner.now) (g.X.Runner.launches c.args.runner.now) (g.X.Runner.collects c.args.runner.now) (g.X.Runner.faults c.args.runner.now)) c.start-came.new.okay.items c.start-came.new.emulator (seen_as (g.X.Runner.is_out c.start-came.new.runner) (g.X.Runner.raised c.start-came.new.runner) (g.X.Runner.may_give c.start-came.new.runner) (g.X.Runner.launches c.start-came.new.runner) (g.X.Runner.collects c.start-came.new.runner) (g.X.Runner.faults c.start-came.new.runner))) c.in-Launch.job-is c.start-came.ensures.starts) in
    (there.job_then, there.kept)

pub returns-then-not-listens-clause-steps : goal.returns-then-not-listens-clause-steps
returns-then-not-listens-clause-steps g c = λ job kept.
    deaf_step (seen g.F.Flash.words g.F.Flash.journal g.F.Flash.faults g.F.Flash.writes) g.F.Flash.part c.args.emulator.now job (seen_as (g.X.Runner.is_out c.args.runner.now) (g.X.Runner.raised c.args.runner.now) (g.X.Runner.may_give c.args.runner.now) (g.X.Runner.launches c.args.runner.now) (g.X.Runner.collects c.args.runner.now) (g.X.Runner.faults c.args.runner.now)) (take (length c.args.bytes.now) c.args.bytes.now)
    (drop (length c.args.bytes.now) c.args.bytes.now) (c.args.sent.now.answer.items ++ c.args.sent.now.okay.items) kept
    (sym c.listens.ensures ∙ c.if-not-listens.true) (drop_all (length c.args.bytes.now) c.args.bytes.now (omega arith))
    (ap (λ (l : List ℕ). l ++ c.args.sent.now.okay.items) c.requires.empty.0 ∙ c.requires.empty.1)
