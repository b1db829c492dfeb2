use Rattle.std.proofs.Common.{◌≤◌, length, drop}
use Rattle.avr_asm.specs.Encodings.{IsMade, fields_told}
use Rattle.avr_asm.proofs.fields.word_of.Given as goal

abbrev pub invariant-letters : goal.invariant-letters
invariant-letters l = record {
  within : l.start ≤ length l.letters;
  made : IsMade (fields_told l.settings).field (drop l.start l.letters) l.made;
}

abbrev pub decreases-letters : goal.decreases-letters
decreases-letters l = l.start
