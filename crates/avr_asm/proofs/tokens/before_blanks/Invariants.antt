use Rattle.std.proofs.Common.{◌≡◌, length}
use Rattle.std.specs.Prelude.{reverse}
use Rattle.asm_spec.specs.Tokens.{behind_blanks}
use Rattle.avr_asm.proofs.tokens.before_blanks.Given as goal

abbrev pub invariant-blanks : goal.invariant-blanks
invariant-blanks l = record { same : reverse (behind_blanks (reverse l.front)) ≡ reverse (behind_blanks (reverse l.fn.bytes)) }

abbrev pub decreases-blanks : goal.decreases-blanks
decreases-blanks l = length l.front
