use Rattle.std.proofs.Common.{◌≡◌, ◌≤◌, true, length, drop}
use Rattle.asm_spec.specs.Listing.{are_erased}
use Rattle.avr_asm.proofs.program.used_words.Given as goal

abbrev pub invariant-words : goal.invariant-words
invariant-words l = record {
  within : l.used ≤ length l.program;
  behind : are_erased (drop l.used l.program) ≡ true;
}

abbrev pub decreases-words : goal.decreases-words
decreases-words l = l.used
