use Rattle.std.proofs.Common.{List, ℕ, ap, ◌∙◌, subst}
use Rattle.part_spec.specs.Chip.{chip_of, words_of}
use Rattle.flash_patch.specs.Asking.{seen}
use Rattle.ice_emul.specs.Session.{Begins}
use Rattle.ice_emul.specs.Beginning.{FailsToBegin}
use Rattle.ice_line.specs.Lines.{line_at}
use Rattle.ice_top.proofs.Sessions.{Ran-not, Ran-part}
use Rattle.ice_top.proofs.replay.begin.Goals as goal

pub returns-in-Ok-clause-ran : goal.returns-in-Ok-clause-ran
returns-in-Ok-clause-ran g c =
    Ran-part (seen g.F.Flash.words g.F.Flash.journal g.F.Flash.faults g.F.Flash.writes) c.run.result.status c.args.ready.part
    (g.F.Flash.part c.args.flash) c.args.ready.program.items c.args.ready.stops.items _ _ c.args.flash c.run.result.flash c.requires.part
    (c.run.ensures.ran c.args.ready.program.items c.args.flash
    (subst (λ (l : List ℕ). Begins (seen g.F.Flash.words g.F.Flash.journal g.F.Flash.faults g.F.Flash.writes) g.F.Flash.part l
    c.args.flash c.in-Ok.emulator) c.as_slice.ensures.value c.in-Ok.ensures.begins)
    (c.requires.size ∙ ap (λ p. words_of (chip_of p)) c.requires.part) c.word.ensures.size)

pub returns-clause-ran : goal.returns-clause-ran
returns-clause-ran g c =
    Ran-part (seen g.F.Flash.words g.F.Flash.journal g.F.Flash.faults g.F.Flash.writes) c.give_back.result.status c.args.ready.part
    (g.F.Flash.part c.args.flash) c.args.ready.program.items c.args.ready.stops.items _ _ c.args.flash c.give_back.result.flash
    c.requires.part
    (Ran-not (seen g.F.Flash.words g.F.Flash.journal g.F.Flash.faults g.F.Flash.writes) c.give_back.result.status
    (chip_of (g.F.Flash.part c.args.flash)) c.args.ready.program.items c.args.ready.stops.items _ _ c.args.flash c.give_back.result.flash
    (c.give_back.ensures.ended c.args.ready.program.items c.args.flash
    (line_at (g.S.Source.left c.args.source.now) (g.S.Source.faults c.args.source.now) (g.K.Sink.written c.args.sink.now)
    (g.K.Sink.faults c.args.sink.now))
    (subst (λ (l : List ℕ). FailsToBegin (seen g.F.Flash.words g.F.Flash.journal g.F.Flash.faults g.F.Flash.writes) g.F.Flash.part l
    c.args.flash c.in-Err.failed) c.as_slice.ensures.value c.in-Err.ensures.fails)))
