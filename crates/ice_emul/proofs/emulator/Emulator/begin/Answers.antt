use Rattle.std.proofs.Common.{sym, ap, ◌∙◌}
use Rattle.part_spec.specs.Chip.{chip_of, words_of}
use Rattle.flash_patch.specs.Asking.{seen}
use Rattle.ice_emul.proofs.Begun.{begun_by}
use Rattle.ice_emul.proofs.emulator.Emulator.begin.Goals as goal

pub returns-clause-begins : goal.returns-clause-begins
returns-clause-begins g c =
    begun_by (seen g.F.Flash.words g.F.Flash.journal g.F.Flash.faults g.F.Flash.writes) g.F.Flash.part c.args.program.now c.args.flash
    c.restore.new.flash c.part-part.result c.part-part.ensures c.in-Ok.opened.receiver c.in-Ok.opened.core c.in-Ok.ensures.receiver
    c.in-Ok.ensures.core (c.requires ∙ ap (λ p. words_of (chip_of p)) (sym c.part-part.ensures)) c.in-Ok.opened.plan c.of.result
    c.in-Ok.ensures.plan c.of.ensures c.in-Ok-restore.ensures.asks c.in-Ok-restore.ensures.words
