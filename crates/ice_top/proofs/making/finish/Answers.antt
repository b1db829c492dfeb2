use Rattle.std.proofs.Common.{◌∙◌, refl}
use Rattle.flash_patch.specs.Asking.{seen}
use Rattle.ice_line.specs.Lines.{line_at}
use Rattle.ice_top.specs.Outside.{ends_at}
use Rattle.ice_top.proofs.Makings.{MadeBy-session}
use Rattle.ice_top.proofs.making.finish.Goals as goal

pub returns-clause-made : goal.returns-clause-made
returns-clause-made g c = λ from left source_faults begun size whole.
    MadeBy-session (seen g.F.Flash.words g.F.Flash.journal g.F.Flash.faults g.F.Flash.writes) g.F.Flash.part from c.args.emulator
    c.args.making.seed c.args.making.count c.make_session-summary.result c.write_some-summed.result c.note-noted.result
    c.as_slice.result.now c.as_slice-2.result.now c.status_at.result
    (ends_at (line_at left source_faults (g.K.Sink.written c.args.sink.now) (g.K.Sink.faults c.args.sink.now))
    (g.E.Sink.written c.args.notes.now) (g.E.Sink.faults c.args.notes.now))
    (ends_at (line_at left source_faults (g.K.Sink.written c.write_some-summed.new.sink) (g.K.Sink.faults c.write_some-summed.new.sink))
    (g.E.Sink.written c.note-noted.new.notes) (g.E.Sink.faults c.note-noted.new.notes))
    whole size c.requires.few begun (c.make_session-summary.ensures begun.own begun.there) c.as_slice.ensures.value
    c.write_some-summed.ensures.writes (refl, refl) (c.as_slice-2.ensures.value ∙ c.totals_line-line.ensures) c.note-noted.ensures.written
    c.status_at.ensures
