use Rattle.std.proofs.Common.{◌∙◌}
use Rattle.flash_patch.specs.Asking.{seen}
use Rattle.ice_line.specs.Lines.{line_at}
use Rattle.ice_top.specs.Outside.{ends_at}
use Rattle.ice_top.proofs.Sessions.{Ran-session}
use Rattle.ice_top.proofs.replay.run.Goals as goal

pub returns-clause-ran : goal.returns-clause-ran
returns-clause-ran g c = λ program from begun size whole.
    Ran-session (seen g.F.Flash.words g.F.Flash.journal g.F.Flash.faults g.F.Flash.writes) g.F.Flash.part program c.args.stops.items from
    c.args.emulator c.replay-end.result c.note-noted.result c.as_slice.result.now c.status_at.result
    (ends_at (line_at (g.S.Source.left c.args.source.now) (g.S.Source.faults c.args.source.now) (g.K.Sink.written c.args.sink.now)
    (g.K.Sink.faults c.args.sink.now)) (g.E.Sink.written c.args.notes.now) (g.E.Sink.faults c.args.notes.now))
    (ends_at (line_at (g.S.Source.left c.replay-end.new.source) (g.S.Source.faults c.replay-end.new.source)
    (g.K.Sink.written c.replay-end.new.sink) (g.K.Sink.faults c.replay-end.new.sink)) (g.E.Sink.written c.note-noted.new.notes)
    (g.E.Sink.faults c.note-noted.new.notes))
    size whole begun (c.replay-end.ensures.replays begun.own begun.there) (c.as_slice.ensures.value ∙ c.totals_line-line.ensures)
    c.note-noted.ensures.written c.status_at.ensures
