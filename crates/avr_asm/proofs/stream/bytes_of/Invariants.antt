use Rattle.std.proofs.Common.{◌≡◌, take}
use Rattle.asm_spec.specs.Words.{bytes_of}
use Rattle.avr_asm.proofs.stream.bytes_of.Given as goal

abbrev pub invariant-words : goal.invariant-words
invariant-words l = record {
  bytes : l.bytes.items ≡ bytes_of (take l.word-index l.piece);
}
