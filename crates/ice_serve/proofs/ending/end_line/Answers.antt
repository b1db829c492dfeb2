use Rattle.std.proofs.Common.{ap, subst}
use Rattle.flash_patch.specs.Asking.{seen}
use Rattle.ice_emul.specs.Taking.{EndsLine, NextStands, takes_line}
use Rattle.ice_emul.specs.declared.emulator.Next.{Next}
use Rattle.ice_serve.specs.Keeping.{seen_as}
use Rattle.ice_serve.proofs.Kept.{has_job}
use Rattle.ice_serve.proofs.Halting.{closed_line, left_line}
use Rattle.ice_serve.proofs.ending.end_line.Goals as goal

pub raise_stop-requires-clause-out : goal.raise_stop-requires-clause-out
raise_stop-requires-clause-out g c =
    let k = c.requires.placed in
    let ends = subst (λ (n : Next g.row.F.Denot). EndsLine n c.args.emulator.now.tool.mode c.take.new.self.tool.mode) c.in-RaiseStop.is
    c.take.ensures.stays in
    (has_job (seen g.F.Flash.words g.F.Flash.journal g.F.Flash.faults g.F.Flash.writes) g.F.Flash.part c.args.emulator.now k.0 (seen_as (g.X.Runner.is_out c.args.runner.now) (g.X.Runner.raised c.args.runner.now) (g.X.Runner.may_give c.args.runner.now) (g.X.Runner.launches c.args.runner.now) (g.X.Runner.collects c.args.runner.now) (g.X.Runner.faults c.args.runner.now)) k.1 ends.0).out

pub returns-in-Closed-clause-placed : goal.returns-in-Closed-clause-placed
returns-in-Closed-clause-placed g c =
    let k = c.requires.placed in
    let there = closed_line (seen g.F.Flash.words g.F.Flash.journal g.F.Flash.faults g.F.Flash.writes) g.F.Flash.part c.args.emulator.now c.take.new.self k.0 (seen_as (g.X.Runner.is_out c.args.runner.now) (g.X.Runner.raised c.args.runner.now) (g.X.Runner.may_give c.args.runner.now) (g.X.Runner.launches c.args.runner.now) (g.X.Runner.collects c.args.runner.now) (g.X.Runner.faults c.args.runner.now)) c.take.result.next c.take.new.out.items k.1
    c.take.ensures.sound c.take.ensures.stands c.take.ensures.stays (c.take.ensures.takes k.0 k.1.held).1 c.in-Closed.restored
    c.in-Closed.is in
    (there.job_then, there.kept)

pub returns-in-Closed-clause-line : goal.returns-in-Closed-clause-line
returns-in-Closed-clause-line g c = λ job kept.
    closed_line (seen g.F.Flash.words g.F.Flash.journal g.F.Flash.faults g.F.Flash.writes) g.F.Flash.part c.args.emulator.now c.take.new.self job (seen_as (g.X.Runner.is_out c.args.runner.now) (g.X.Runner.raised c.args.runner.now) (g.X.Runner.may_give c.args.runner.now) (g.X.Runner.launches c.args.runner.now) (g.X.Runner.collects c.args.runner.now) (g.X.Runner.faults c.args.runner.now)) c.take.result.next c.take.new.out.items kept
    c.take.ensures.sound c.take.ensures.stands c.take.ensures.stays (c.take.ensures.takes job kept.held).1 c.in-Closed.restored
    c.in-Closed.is

pub returns-in-Closed-clause-stands : goal.returns-in-Closed-clause-stands
returns-in-Closed-clause-stands g c =
    subst (λ (n : Next g.row.F.Denot). NextStands (seen g.F.Flash.words g.F.Flash.journal g.F.Flash.faults g.F.Flash.writes) g.F.Flash.part n c.args.emulator.now c.take.new.self) c.in-Closed.is c.take.ensures.stands

pub returns-in-RaiseStop-clause-placed : goal.returns-in-RaiseStop-clause-placed
returns-in-RaiseStop-clause-placed g c =
    let k = c.requires.placed in
    let there = left_line (seen g.F.Flash.words g.F.Flash.journal g.F.Flash.faults g.F.Flash.writes) g.F.Flash.part c.args.emulator.now c.take.new.self k.0 (seen_as (g.X.Runner.is_out c.args.runner.now) (g.X.Runner.raised c.args.runner.now) (g.X.Runner.may_give c.args.runner.now) (g.X.Runner.launches c.args.runner.now) (g.X.Runner.collects c.args.runner.now) (g.X.Runner.faults c.args.runner.now)) c.take.result.next c.take.new.out.items k.1
    c.take.ensures.sound c.take.ensures.stands c.take.ensures.stays (c.take.ensures.takes k.0 k.1.held).1 c.in-RaiseStop.is
    (seen_as (g.X.Runner.is_out c.raise_stop.new.self) (g.X.Runner.raised c.raise_stop.new.self) (g.X.Runner.may_give c.raise_stop.new.self) (g.X.Runner.launches c.raise_stop.new.self) (g.X.Runner.collects c.raise_stop.new.self) (g.X.Runner.faults c.raise_stop.new.self)) c.raise_stop.ensures.out c.raise_stop.ensures.ends c.raise_stop.ensures.counts.0
    c.raise_stop.ensures.counts.1 c.raise_stop.ensures.faults in
    (there.job_then, there.kept)

pub returns-in-RaiseStop-clause-line : goal.returns-in-RaiseStop-clause-line
returns-in-RaiseStop-clause-line g c = λ job kept.
    left_line (seen g.F.Flash.words g.F.Flash.journal g.F.Flash.faults g.F.Flash.writes) g.F.Flash.part c.args.emulator.now c.take.new.self job (seen_as (g.X.Runner.is_out c.args.runner.now) (g.X.Runner.raised c.args.runner.now) (g.X.Runner.may_give c.args.runner.now) (g.X.Runner.launches c.args.runner.now) (g.X.Runner.collects c.args.runner.now) (g.X.Runner.faults c.args.runner.now)) c.take.result.next c.take.new.out.items kept
    c.take.ensures.sound c.take.ensures.stands c.take.ensures.stays (c.take.ensures.takes job kept.held).1 c.in-RaiseStop.is
    (seen_as (g.X.Runner.is_out c.raise_stop.new.self) (g.X.Runner.raised c.raise_stop.new.self) (g.X.Runner.may_give c.raise_stop.new.self) (g.X.Runner.launches c.raise_stop.new.self) (g.X.Runner.collects c.raise_stop.new.self) (g.X.Runner.faults c.raise_stop.new.self)) c.raise_stop.ensures.out c.raise_stop.ensures.ends c.raise_stop.ensures.counts.0
    c.raise_stop.ensures.counts.1 c.raise_stop.ensures.faults

pub returns-in-RaiseStop-clause-stands : goal.returns-in-RaiseStop-clause-stands
returns-in-RaiseStop-clause-stands g c =
    ap takes_line (subst (λ (n : Next g.row.F.Denot). EndsLine n c.args.emulator.now.tool.mode c.take.new.self.tool.mode) c.in-RaiseStop.is
    c.take.ensures.stays).1
