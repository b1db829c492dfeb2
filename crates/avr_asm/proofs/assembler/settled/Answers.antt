use Rattle.std.proofs.Common.{ℕ, List, replicate, sym, ap, ◌∙◌, subst}
use Rattle.part_spec.specs.Chip.{chip_of, words_of}
use Rattle.avr_asm.specs.declared.sheet.Entry.{Entry as HeldEntry}
use Rattle.avr_asm.specs.Encodings.{FitEntries}
use Rattle.avr_asm.specs.Sheets.{entries_told}
use Rattle.avr_asm.proofs.Filling.{none_yet}
use Rattle.avr_asm.proofs.assembler.settled.Goals as goal

pub put_entries-requires-clause-fit : goal.put_entries-requires-clause-fit
put_entries-requires-clause-fit c =
    subst (FitEntries (chip_of c.args.part))
    (sym (ap (λ (l : List HeldEntry). entries_told l) c.deref.ensures.value ∙ c.requires.1.entries)) c.requires.1.fit

pub put_entries-requires-clause-erased : goal.put_entries-requires-clause-erased
put_entries-requires-clause-erased c =
    c.deref_mut.ensures.value ∙ c.in-Ok.ensures.items_if_clones_equal (λ y same. same)
    ∙ ap (λ (n : ℕ). replicate n 0xffff) (c.from.ensures ∙ c.words.ensures) ∙ none_yet (words_of (chip_of c.args.part))
