use Rattle.flash_patch.specs.Asking.{seen}
use Rattle.ice_serve.specs.Keeping.{seen_as}
use Rattle.ice_serve.proofs.ChunkNotes.{taken_note, closed_note, unsent_note, closed_unsent_note}
use Rattle.ice_serve.proofs.note.take_bytes.Goals as goal

pub returns-in-Taken-clause-takes : goal.returns-in-Taken-clause-takes
returns-in-Taken-clause-takes g c = λ job kept.
    taken_note (seen g.F.Flash.words g.F.Flash.journal g.F.Flash.faults g.F.Flash.writes) g.F.Flash.part c.args.chunk.now c.args.emulator.now job (seen_as (g.X.Runner.is_out c.args.runner.now) (g.X.Runner.raised c.args.runner.now) (g.X.Runner.may_give c.args.runner.now) (g.X.Runner.launches c.args.runner.now) (g.X.Runner.collects c.args.runner.now) (g.X.Runner.faults c.args.runner.now)) (g.K.Sink.written c.args.sink.now) (g.K.Sink.written c.take_chunk.new.sink)
    (g.K.Sink.faults c.args.sink.now) (g.K.Sink.faults c.take_chunk.new.sink) c.take_chunk.new.emulator (seen_as (g.X.Runner.is_out c.take_chunk.new.runner) (g.X.Runner.raised c.take_chunk.new.runner) (g.X.Runner.may_give c.take_chunk.new.runner) (g.X.Runner.launches c.take_chunk.new.runner) (g.X.Runner.collects c.take_chunk.new.runner) (g.X.Runner.faults c.take_chunk.new.runner))
    (c.in-Taken.ensures.takes job kept)

pub returns-in-Closed-clause-takes : goal.returns-in-Closed-clause-takes
returns-in-Closed-clause-takes g c = λ job kept.
    closed_note (seen g.F.Flash.words g.F.Flash.journal g.F.Flash.faults g.F.Flash.writes) g.F.Flash.part c.args.chunk.now c.args.emulator.now job (seen_as (g.X.Runner.is_out c.args.runner.now) (g.X.Runner.raised c.args.runner.now) (g.X.Runner.may_give c.args.runner.now) (g.X.Runner.launches c.args.runner.now) (g.X.Runner.collects c.args.runner.now) (g.X.Runner.faults c.args.runner.now)) (g.K.Sink.written c.args.sink.now) (g.K.Sink.written c.take_chunk.new.sink)
    (g.K.Sink.faults c.args.sink.now) (g.K.Sink.faults c.take_chunk.new.sink) c.take_chunk.new.emulator (seen_as (g.X.Runner.is_out c.take_chunk.new.runner) (g.X.Runner.raised c.take_chunk.new.runner) (g.X.Runner.may_give c.take_chunk.new.runner) (g.X.Runner.launches c.take_chunk.new.runner) (g.X.Runner.collects c.take_chunk.new.runner) (g.X.Runner.faults c.take_chunk.new.runner)) c.in-Closed.restored
    (c.in-Closed.ensures.takes job kept) c.in-Closed.ensures.ignores

pub returns-in-Unsent-clause-takes : goal.returns-in-Unsent-clause-takes
returns-in-Unsent-clause-takes g c = λ job kept.
    unsent_note (seen g.F.Flash.words g.F.Flash.journal g.F.Flash.faults g.F.Flash.writes) g.F.Flash.part c.args.chunk.now c.args.emulator.now job (seen_as (g.X.Runner.is_out c.args.runner.now) (g.X.Runner.raised c.args.runner.now) (g.X.Runner.may_give c.args.runner.now) (g.X.Runner.launches c.args.runner.now) (g.X.Runner.collects c.args.runner.now) (g.X.Runner.faults c.args.runner.now)) (g.K.Sink.written c.args.sink.now) (g.K.Sink.written c.take_chunk.new.sink)
    (g.K.Sink.faults c.args.sink.now) (g.K.Sink.faults c.take_chunk.new.sink) c.take_chunk.new.emulator (seen_as (g.X.Runner.is_out c.take_chunk.new.runner) (g.X.Runner.raised c.take_chunk.new.runner) (g.X.Runner.may_give c.take_chunk.new.runner) (g.X.Runner.launches c.take_chunk.new.runner) (g.X.Runner.collects c.take_chunk.new.runner) (g.X.Runner.faults c.take_chunk.new.runner))
    (c.in-Unsent.ensures.takes job kept) c.in-Unsent.ensures.ignores c.take_chunk.ensures.part c.end_line.result
    c.end_line.new.emulator (seen_as (g.X.Runner.is_out c.end_line.new.runner) (g.X.Runner.raised c.end_line.new.runner) (g.X.Runner.may_give c.end_line.new.runner) (g.X.Runner.launches c.end_line.new.runner) (g.X.Runner.collects c.end_line.new.runner) (g.X.Runner.faults c.end_line.new.runner)) c.end_line.ensures.line

pub returns-in-ClosedUnsent-clause-takes : goal.returns-in-ClosedUnsent-clause-takes
returns-in-ClosedUnsent-clause-takes g c = λ job kept.
    closed_unsent_note (seen g.F.Flash.words g.F.Flash.journal g.F.Flash.faults g.F.Flash.writes) g.F.Flash.part c.args.chunk.now c.args.emulator.now job (seen_as (g.X.Runner.is_out c.args.runner.now) (g.X.Runner.raised c.args.runner.now) (g.X.Runner.may_give c.args.runner.now) (g.X.Runner.launches c.args.runner.now) (g.X.Runner.collects c.args.runner.now) (g.X.Runner.faults c.args.runner.now)) (g.K.Sink.written c.args.sink.now) (g.K.Sink.written c.take_chunk.new.sink)
    (g.K.Sink.faults c.args.sink.now) (g.K.Sink.faults c.take_chunk.new.sink) c.take_chunk.new.emulator (seen_as (g.X.Runner.is_out c.take_chunk.new.runner) (g.X.Runner.raised c.take_chunk.new.runner) (g.X.Runner.may_give c.take_chunk.new.runner) (g.X.Runner.launches c.take_chunk.new.runner) (g.X.Runner.collects c.take_chunk.new.runner) (g.X.Runner.faults c.take_chunk.new.runner))
    (c.in-ClosedUnsent.ensures.takes job kept) c.in-ClosedUnsent.ensures.ignores c.in-ClosedUnsent.ensures.stands
