use Rattle.std.proofs.Common.{List, ℕ, ◌≡◌, length, refl, ap, ◌∙◌, sym, subst}
use Rattle.part_spec.specs.declared.part.Part.{Part}
use Rattle.part_spec.specs.Chip.{chip_of, words_of}
use Rattle.flash_patch.specs.Asking.{seen}
use Rattle.shell_spec.specs.Generator.{made_program}
use Rattle.ice_emul.specs.Session.{Begins}
use Rattle.ice_emul.specs.Beginning.{FailsToBegin}
use Rattle.ice_line.specs.Lines.{line_at}
use Rattle.ice_top.proofs.Makings.{MadeBy-memory, MadeBy-not, MadeBy-part}
use Rattle.ice_top.proofs.making.make.Goals as goal

pub returns-in-Ok-begin-clause-made : goal.returns-in-Ok-begin-clause-made
returns-in-Ok-begin-clause-made g c = λ left source_faults.
    MadeBy-part (seen g.F.Flash.words g.F.Flash.journal g.F.Flash.faults g.F.Flash.writes) c.finish.result.status c.args.making.part
    (g.F.Flash.part c.args.flash) c.args.making.seed c.args.making.count _ _ c.args.flash c.finish.result.flash c.requires.part
    (c.finish.ensures.made c.args.flash left source_faults
    (subst (λ (l : List ℕ). Begins (seen g.F.Flash.words g.F.Flash.journal g.F.Flash.faults g.F.Flash.writes) g.F.Flash.part l
    c.args.flash c.in-Ok-begin.emulator)
    (c.as_slice.ensures.value ∙ c.in-Ok.ensures.words ∙ ap (λ (p : Part). made_program (chip_of p)) c.requires.part)
    c.in-Ok-begin.ensures.begins)
    (subst (λ (p : Part). length (made_program (chip_of p)) ≡ words_of (chip_of p)) c.requires.part
    (sym (ap length c.in-Ok.ensures.words) ∙ c.in-Ok.ensures.size))
    c.word.ensures.size)

pub returns-clause-made : goal.returns-clause-made
returns-clause-made g c = λ left source_faults.
    MadeBy-part (seen g.F.Flash.words g.F.Flash.journal g.F.Flash.faults g.F.Flash.writes) c.give_back.result.status c.args.making.part
    (g.F.Flash.part c.args.flash) c.args.making.seed c.args.making.count _ _ c.args.flash c.give_back.result.flash c.requires.part
    (MadeBy-not (seen g.F.Flash.words g.F.Flash.journal g.F.Flash.faults g.F.Flash.writes) c.give_back.result.status
    (chip_of (g.F.Flash.part c.args.flash)) c.args.making.seed c.args.making.count _ _ c.args.flash c.give_back.result.flash
    (c.give_back.ensures.ended (made_program (chip_of (g.F.Flash.part c.args.flash))) c.args.flash
    (line_at left source_faults (g.K.Sink.written c.args.sink.now) (g.K.Sink.faults c.args.sink.now))
    (subst (λ (l : List ℕ). FailsToBegin (seen g.F.Flash.words g.F.Flash.journal g.F.Flash.faults g.F.Flash.writes) g.F.Flash.part l
    c.args.flash c.in-Err.failed)
    (c.as_slice.ensures.value ∙ c.in-Ok.ensures.words ∙ ap (λ (p : Part). made_program (chip_of p)) c.requires.part)
    c.in-Err.ensures.fails)))

pub returns-in_default-clause-made : goal.returns-in_default-clause-made
returns-in_default-clause-made g c = λ left source_faults.
    MadeBy-part (seen g.F.Flash.words g.F.Flash.journal g.F.Flash.faults g.F.Flash.writes) c.refused.result c.args.making.part
    (g.F.Flash.part c.args.flash) c.args.making.seed c.args.making.count _ _ c.args.flash c.args.flash c.requires.part
    (MadeBy-memory _ c.refused.result _ _ _ _ _ c.args.flash refl c.refused.ensures.noted c.refused.ensures.same)
