use Rattle.std.proofs.Common.{List, take}
use Rattle.part_spec.specs.Chip.{chip_of}
use Rattle.asm_spec.specs.Words.{Label, pieces_of}
use Rattle.avr_asm.specs.Settled.{IsFilled}
use Rattle.avr_asm.specs.Sheets.{HasPlaces, entries_told}
use Rattle.avr_asm.proofs.encodings.put_entries.Given as goal

abbrev pub invariant-entries : goal.invariant-entries
invariant-entries l = (names : List Label) → HasPlaces l.labels names →
    IsFilled (chip_of l.part) l.used l.words (pieces_of (chip_of l.part) names (entries_told (take l.entry-index l.entries)))
