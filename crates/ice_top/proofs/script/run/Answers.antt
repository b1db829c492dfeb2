use Rattle.std.proofs.Common.{◌∙◌}
use Rattle.flash_patch.specs.Asking.{seen}
use Rattle.ice_line.specs.Lines.{line_at}
use Rattle.ice_top.specs.Outside.{ends_at}
use Rattle.ice_top.proofs.Scriptings.{Scripted-ran, never_unopened}
use Rattle.ice_top.proofs.script.run.Goals as goal

pub returns-clause-ran : goal.returns-clause-ran
returns-clause-ran g c = λ program stops from opens size whole.
    Scripted-ran (seen g.F.Flash.words g.F.Flash.journal g.F.Flash.faults g.F.Flash.writes) g.F.Flash.part program stops from
    c.args.host.standing.link.side.emulator c.run_session-end.result c.note-noted.result c.as_slice.result.now c.status_at.result
    (ends_at (line_at (g.S.Source.left c.args.source.now) (g.S.Source.faults c.args.source.now) (g.K.Sink.written c.args.sink.now)
    (g.K.Sink.faults c.args.sink.now)) (g.E.Sink.written c.args.notes.now) (g.E.Sink.faults c.args.notes.now))
    (ends_at (line_at (g.S.Source.left c.run_session-end.new.source) (g.S.Source.faults c.run_session-end.new.source)
    (g.K.Sink.written c.run_session-end.new.sink) (g.K.Sink.faults c.run_session-end.new.sink)) (g.E.Sink.written c.note-noted.new.notes)
    (g.E.Sink.faults c.note-noted.new.notes))
    size whole opens.begins (c.run_session-end.ensures.scripts stops opens.begins.own opens.fresh opens.begins.there)
    (c.as_slice.ensures.value ∙ c.totals_line-line.ensures) c.note-noted.ensures.written c.status_at.ensures

pub returns-clause-opened : goal.returns-clause-opened
returns-clause-opened g c =
    never_unopened c.status_at.result c.run_session-end.result.end c.run_session-end.result.signed c.run_session-end.result.restored
    c.note-noted.result c.status_at.ensures
