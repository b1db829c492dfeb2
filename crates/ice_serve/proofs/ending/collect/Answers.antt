use Rattle.std.proofs.Common.{arith, subst}
use Rattle.flash_patch.specs.Asking.{seen}
use Rattle.ice_emul.specs.Coming.{IsOver}
use Rattle.ice_emul.specs.declared.emulator.Next.{Next}
use Rattle.ice_serve.specs.Keeping.{seen_as}
use Rattle.ice_serve.proofs.Kept.{has_job, own_done}
use Rattle.ice_serve.proofs.Halting.{told_halt, closed_halt}
use Rattle.ice_serve.proofs.ending.collect.Goals as goal

pub collect-done-requires-clause-out : goal.collect-done-requires-clause-out
collect-done-requires-clause-out g c =
    let k = c.requires.placed in
    (has_job (seen g.F.Flash.words g.F.Flash.journal g.F.Flash.faults g.F.Flash.writes) g.F.Flash.part c.args.emulator.now k.0 (seen_as (g.X.Runner.is_out c.args.runner.now) (g.X.Runner.raised c.args.runner.now) (g.X.Runner.may_give c.args.runner.now) (g.X.Runner.launches c.args.runner.now) (g.X.Runner.collects c.args.runner.now) (g.X.Runner.faults c.args.runner.now)) k.1 c.requires.out).out

pub collect-done-requires-clause-ready : goal.collect-done-requires-clause-ready
collect-done-requires-clause-ready g c =
    let k = c.requires.placed in
    c.requires.ready c.args.runner.now (has_job (seen g.F.Flash.words g.F.Flash.journal g.F.Flash.faults g.F.Flash.writes) g.F.Flash.part c.args.emulator.now k.0 (seen_as (g.X.Runner.is_out c.args.runner.now) (g.X.Runner.raised c.args.runner.now) (g.X.Runner.may_give c.args.runner.now) (g.X.Runner.launches c.args.runner.now) (g.X.Runner.collects c.args.runner.now) (g.X.Runner.faults c.args.runner.now)) k.1 c.requires.out).out

pub collect-done-requires-clause-due : goal.collect-done-requires-clause-due
collect-done-requires-clause-due g c =
    let k = c.requires.placed in
    let has = has_job (seen g.F.Flash.words g.F.Flash.journal g.F.Flash.faults g.F.Flash.writes) g.F.Flash.part c.args.emulator.now k.0 (seen_as (g.X.Runner.is_out c.args.runner.now) (g.X.Runner.raised c.args.runner.now) (g.X.Runner.may_give c.args.runner.now) (g.X.Runner.launches c.args.runner.now) (g.X.Runner.collects c.args.runner.now) (g.X.Runner.faults c.args.runner.now)) k.1 c.requires.out in
    omega (arith, has.due)

pub take-requires-clause-takes : goal.take-requires-clause-takes
take-requires-clause-takes g c =
    let k = c.requires.placed in
    let has = has_job (seen g.F.Flash.words g.F.Flash.journal g.F.Flash.faults g.F.Flash.writes) g.F.Flash.part c.args.emulator.now k.0 (seen_as (g.X.Runner.is_out c.args.runner.now) (g.X.Runner.raised c.args.runner.now) (g.X.Runner.may_give c.args.runner.now) (g.X.Runner.launches c.args.runner.now) (g.X.Runner.collects c.args.runner.now) (g.X.Runner.faults c.args.runner.now)) k.1 c.requires.out in (
      c.requires.out,
      own_done (seen g.F.Flash.words g.F.Flash.journal g.F.Flash.faults g.F.Flash.writes) g.F.Flash.part c.args.emulator.now k.0 (seen_as (g.X.Runner.is_out c.args.runner.now) (g.X.Runner.raised c.args.runner.now) (g.X.Runner.may_give c.args.runner.now) (g.X.Runner.launches c.args.runner.now) (g.X.Runner.collects c.args.runner.now) (g.X.Runner.faults c.args.runner.now)) c.collect-done.result k.1 c.requires.out
          (has.gives c.collect-done.result c.collect-done.ensures.gives),
    )

pub returns-in-Answered-clause-placed : goal.returns-in-Answered-clause-placed
returns-in-Answered-clause-placed g c =
    let k = c.requires.placed in
    let there = told_halt (seen g.F.Flash.words g.F.Flash.journal g.F.Flash.faults g.F.Flash.writes) g.F.Flash.part c.args.emulator.now c.take.new.self k.0 (seen_as (g.X.Runner.is_out c.args.runner.now) (g.X.Runner.raised c.args.runner.now) (g.X.Runner.may_give c.args.runner.now) (g.X.Runner.launches c.args.runner.now) (g.X.Runner.collects c.args.runner.now) (g.X.Runner.faults c.args.runner.now)) c.take.result.next c.take.new.out.items k.1
    c.take.ensures.sound c.take.ensures.stands c.collect-done.result c.requires.out c.collect-done.ensures.gives
    c.collect-done.ensures.forced c.take.ensures.over (c.take.ensures.takes k.0 k.1.held).1 (seen_as (g.X.Runner.is_out c.collect-done.new.self) (g.X.Runner.raised c.collect-done.new.self) (g.X.Runner.may_give c.collect-done.new.self) (g.X.Runner.launches c.collect-done.new.self) (g.X.Runner.collects c.collect-done.new.self) (g.X.Runner.faults c.collect-done.new.self))
    c.collect-done.ensures.free c.collect-done.ensures.counts.0 c.collect-done.ensures.counts.1 c.collect-done.ensures.faults
    c.in-Answered.is in
    (there.job_then, there.kept)

pub returns-in-Answered-clause-halts : goal.returns-in-Answered-clause-halts
returns-in-Answered-clause-halts g c = λ job kept.
    told_halt (seen g.F.Flash.words g.F.Flash.journal g.F.Flash.faults g.F.Flash.writes) g.F.Flash.part c.args.emulator.now c.take.new.self job (seen_as (g.X.Runner.is_out c.args.runner.now) (g.X.Runner.raised c.args.runner.now) (g.X.Runner.may_give c.args.runner.now) (g.X.Runner.launches c.args.runner.now) (g.X.Runner.collects c.args.runner.now) (g.X.Runner.faults c.args.runner.now)) c.take.result.next c.take.new.out.items kept
    c.take.ensures.sound c.take.ensures.stands c.collect-done.result c.requires.out c.collect-done.ensures.gives
    c.collect-done.ensures.forced c.take.ensures.over (c.take.ensures.takes job kept.held).1 (seen_as (g.X.Runner.is_out c.collect-done.new.self) (g.X.Runner.raised c.collect-done.new.self) (g.X.Runner.may_give c.collect-done.new.self) (g.X.Runner.launches c.collect-done.new.self) (g.X.Runner.collects c.collect-done.new.self) (g.X.Runner.faults c.collect-done.new.self))
    c.collect-done.ensures.free c.collect-done.ensures.counts.0 c.collect-done.ensures.counts.1 c.collect-done.ensures.faults
    c.in-Answered.is

pub returns-in-Answered-clause-stands : goal.returns-in-Answered-clause-stands
returns-in-Answered-clause-stands g c =
    subst (λ (n : Next g.row.F.Denot). IsOver n c.args.emulator.now.tool.mode c.take.new.self.tool.mode) c.in-Answered.is c.take.ensures.over

pub returns-in-Closed-clause-placed : goal.returns-in-Closed-clause-placed
returns-in-Closed-clause-placed g c =
    let k = c.requires.placed in
    let there = closed_halt (seen g.F.Flash.words g.F.Flash.journal g.F.Flash.faults g.F.Flash.writes) g.F.Flash.part c.args.emulator.now c.take.new.self k.0 (seen_as (g.X.Runner.is_out c.args.runner.now) (g.X.Runner.raised c.args.runner.now) (g.X.Runner.may_give c.args.runner.now) (g.X.Runner.launches c.args.runner.now) (g.X.Runner.collects c.args.runner.now) (g.X.Runner.faults c.args.runner.now)) c.take.result.next c.take.new.out.items k.1
    c.take.ensures.sound c.take.ensures.stands c.collect-done.result c.requires.out c.collect-done.ensures.gives
    c.collect-done.ensures.forced c.take.ensures.over (c.take.ensures.takes k.0 k.1.held).1 (seen_as (g.X.Runner.is_out c.collect-done.new.self) (g.X.Runner.raised c.collect-done.new.self) (g.X.Runner.may_give c.collect-done.new.self) (g.X.Runner.launches c.collect-done.new.self) (g.X.Runner.collects c.collect-done.new.self) (g.X.Runner.faults c.collect-done.new.self))
    c.collect-done.ensures.free c.collect-done.ensures.counts.0 c.collect-done.ensures.counts.1 c.collect-done.ensures.faults
    c.in-Closed.restored c.in-Closed.is in
    (there.job_then, there.kept)

pub returns-in-Closed-clause-halts : goal.returns-in-Closed-clause-halts
returns-in-Closed-clause-halts g c = λ job kept.
    closed_halt (seen g.F.Flash.words g.F.Flash.journal g.F.Flash.faults g.F.Flash.writes) g.F.Flash.part c.args.emulator.now c.take.new.self job (seen_as (g.X.Runner.is_out c.args.runner.now) (g.X.Runner.raised c.args.runner.now) (g.X.Runner.may_give c.args.runner.now) (g.X.Runner.launches c.args.runner.now) (g.X.Runner.collects c.args.runner.now) (g.X.Runner.faults c.args.runner.now)) c.take.result.next c.take.new.out.items kept
    c.take.ensures.sound c.take.ensures.stands c.collect-done.result c.requires.out c.collect-done.ensures.gives
    c.collect-done.ensures.forced c.take.ensures.over (c.take.ensures.takes job kept.held).1 (seen_as (g.X.Runner.is_out c.collect-done.new.self) (g.X.Runner.raised c.collect-done.new.self) (g.X.Runner.may_give c.collect-done.new.self) (g.X.Runner.launches c.collect-done.new.self) (g.X.Runner.collects c.collect-done.new.self) (g.X.Runner.faults c.collect-done.new.self))
    c.collect-done.ensures.free c.collect-done.ensures.counts.0 c.collect-done.ensures.counts.1 c.collect-done.ensures.faults
    c.in-Closed.restored c.in-Closed.is

pub returns-in-Closed-clause-stands : goal.returns-in-Closed-clause-stands
returns-in-Closed-clause-stands g c =
    subst (λ (n : Next g.row.F.Denot). IsOver n c.args.emulator.now.tool.mode c.take.new.self.tool.mode) c.in-Closed.is c.take.ensures.over
