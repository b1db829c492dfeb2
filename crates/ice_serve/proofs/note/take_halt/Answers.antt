use Rattle.std.proofs.Common.{inl, inr, arith}
use Rattle.flash_patch.specs.Asking.{seen}
use Rattle.ice_serve.specs.Keeping.{seen_as}
use Rattle.ice_serve.proofs.HaltNotes.{ignored_note, over_note, told_note, out_in, home_in}
use Rattle.ice_serve.proofs.note.take_halt.Goals as goal
use Rattle.ice_serve.proofs.note.take_halt.Goals.{then-state-ne1-via-then-state-ne1, then-state-ne1-via-else-state-ne1+then-number-launches}

pub returns-then-state-ne1-clause-takes : goal.returns-then-state-ne1-clause-takes
returns-then-state-ne1-clause-takes g c = λ job kept.
    elim c.then-state-ne1.branch [
      | then-state-ne1-via-then-state-ne1 w ↦
          ignored_note (seen g.F.Flash.words g.F.Flash.journal g.F.Flash.faults g.F.Flash.writes) g.F.Flash.part c.args.emulator.now job (seen_as (g.X.Runner.is_out c.args.runner.now) (g.X.Runner.raised c.args.runner.now) (g.X.Runner.may_give c.args.runner.now) (g.X.Runner.launches c.args.runner.now) (g.X.Runner.collects c.args.runner.now) (g.X.Runner.faults c.args.runner.now)) c.args.number kept
          (inl (home_in c.args.emulator.now.tool.mode (λ is. omega (arith, is, c.state.ensures, w.if-state-ne1.true)))) (g.K.Sink.written c.args.sink.now)
          (g.K.Sink.faults c.args.sink.now)
      | then-state-ne1-via-else-state-ne1+then-number-launches w ↦
          ignored_note (seen g.F.Flash.words g.F.Flash.journal g.F.Flash.faults g.F.Flash.writes) g.F.Flash.part c.args.emulator.now job (seen_as (g.X.Runner.is_out c.args.runner.now) (g.X.Runner.raised c.args.runner.now) (g.X.Runner.may_give c.args.runner.now) (g.X.Runner.launches c.args.runner.now) (g.X.Runner.collects c.args.runner.now) (g.X.Runner.faults c.args.runner.now)) c.args.number kept
          (inr (λ same. omega (arith, same, c.requires.counted, w.if-number-launches.true))) (g.K.Sink.written c.args.sink.now) (g.K.Sink.faults c.args.sink.now)
    ]

pub returns-in-Some-clause-takes : goal.returns-in-Some-clause-takes
returns-in-Some-clause-takes g c = λ job kept.
    over_note (seen g.F.Flash.words g.F.Flash.journal g.F.Flash.faults g.F.Flash.writes) g.F.Flash.part c.args.emulator.now job (seen_as (g.X.Runner.is_out c.args.runner.now) (g.X.Runner.raised c.args.runner.now) (g.X.Runner.may_give c.args.runner.now) (g.X.Runner.launches c.args.runner.now) (g.X.Runner.collects c.args.runner.now) (g.X.Runner.faults c.args.runner.now)) c.args.number
    (out_in c.args.emulator.now.tool.mode (omega (arith, c.state.ensures, c.if-state-ne1.false)))
    (omega (arith, c.requires.counted, c.if-number-launches.false)) c.in-Some.restored c.collect.new.emulator
    (seen_as (g.X.Runner.is_out c.collect.new.runner) (g.X.Runner.raised c.collect.new.runner) (g.X.Runner.may_give c.collect.new.runner) (g.X.Runner.launches c.collect.new.runner) (g.X.Runner.collects c.collect.new.runner) (g.X.Runner.faults c.collect.new.runner)) (c.in-Some.ensures.halts job kept) (g.K.Sink.written c.args.sink.now) (g.K.Sink.faults c.args.sink.now)

pub returns-in-None-clause-takes : goal.returns-in-None-clause-takes
returns-in-None-clause-takes g c = λ job kept.
    told_note (seen g.F.Flash.words g.F.Flash.journal g.F.Flash.faults g.F.Flash.writes) g.F.Flash.part c.args.emulator.now job (seen_as (g.X.Runner.is_out c.args.runner.now) (g.X.Runner.raised c.args.runner.now) (g.X.Runner.may_give c.args.runner.now) (g.X.Runner.launches c.args.runner.now) (g.X.Runner.collects c.args.runner.now) (g.X.Runner.faults c.args.runner.now)) c.args.number
    (out_in c.args.emulator.now.tool.mode (omega (arith, c.state.ensures, c.if-state-ne1.false)))
    (omega (arith, c.requires.counted, c.if-number-launches.false)) c.tell.result
    c.collect.new.event.items c.collect.new.emulator c.tell.new.emulator (seen_as (g.X.Runner.is_out c.collect.new.runner) (g.X.Runner.raised c.collect.new.runner) (g.X.Runner.may_give c.collect.new.runner) (g.X.Runner.launches c.collect.new.runner) (g.X.Runner.collects c.collect.new.runner) (g.X.Runner.faults c.collect.new.runner)) (seen_as (g.X.Runner.is_out c.tell.new.runner) (g.X.Runner.raised c.tell.new.runner) (g.X.Runner.may_give c.tell.new.runner) (g.X.Runner.launches c.tell.new.runner) (g.X.Runner.collects c.tell.new.runner) (g.X.Runner.faults c.tell.new.runner))
    c.in-None.ensures.stands.0 (c.in-None.ensures.halts job kept) c.collect.ensures.part c.tell.ensures.tells (g.K.Sink.written c.args.sink.now)
    (g.K.Sink.written c.tell.new.sink) (g.K.Sink.faults c.args.sink.now) (g.K.Sink.faults c.tell.new.sink) c.tell.ensures.writes
