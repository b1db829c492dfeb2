use Rattle.std.proofs.Common.{List, ℕ, ap, ◌∙◌, subst, inr}
use Rattle.part_spec.specs.Chip.{chip_of, words_of}
use Rattle.flash_patch.specs.Asking.{seen}
use Rattle.ice_emul.specs.Beginning.{FailsToBegin}
use Rattle.ice_script.specs.Scripts.{Opens}
use Rattle.ice_line.specs.Lines.{line_at}
use Rattle.ice_top.proofs.Scriptings.{Scripted-part}
use Rattle.ice_top.proofs.script.begin.Goals as goal

pub returns-in-Ok-clause-ran : goal.returns-in-Ok-clause-ran
returns-in-Ok-clause-ran g c =
    Scripted-part (seen g.F.Flash.words g.F.Flash.journal g.F.Flash.faults g.F.Flash.writes) c.run.result.status c.args.ready.part
    (g.F.Flash.part c.args.flash) c.args.ready.program.items c.args.ready.stops.items _ _ c.args.flash c.run.result.flash c.requires.part
    (c.run.ensures.ran c.args.ready.program.items c.args.ready.stops.items c.args.flash
    (subst (λ (l : List ℕ). Opens (seen g.F.Flash.words g.F.Flash.journal g.F.Flash.faults g.F.Flash.writes) g.F.Flash.part l
    c.args.ready.stops.items c.args.flash c.in-Ok.host) c.as_slice.ensures.value c.in-Ok.ensures.opens)
    (c.requires.size ∙ ap (λ p. words_of (chip_of p)) c.requires.part) c.word.ensures.size)

pub returns-clause-ran : goal.returns-clause-ran
returns-clause-ran g c =
    Scripted-part (seen g.F.Flash.words g.F.Flash.journal g.F.Flash.faults g.F.Flash.writes) c.give_back.result.status c.args.ready.part
    (g.F.Flash.part c.args.flash) c.args.ready.program.items c.args.ready.stops.items _ _ c.args.flash c.give_back.result.flash
    c.requires.part
    (inr (c.give_back.ensures.ended c.args.ready.program.items c.args.flash
    (line_at (g.S.Source.left c.args.source.now) (g.S.Source.faults c.args.source.now) (g.K.Sink.written c.args.sink.now)
    (g.K.Sink.faults c.args.sink.now))
    (subst (λ (l : List ℕ). FailsToBegin (seen g.F.Flash.words g.F.Flash.journal g.F.Flash.faults g.F.Flash.writes) g.F.Flash.part l
    c.args.flash c.in-Err.failed) c.as_slice.ensures.value c.in-Err.ensures.fails)))
