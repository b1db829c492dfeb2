use Rattle.std.proofs.Common.{◌≡◌, length}
use Rattle.asm_spec.specs.Tokens.{behind_blanks}
use Rattle.avr_asm.proofs.tokens.behind_blanks.Given as goal

abbrev pub invariant-blanks : goal.invariant-blanks
invariant-blanks l = record { same : behind_blanks l.rest ≡ behind_blanks l.fn.bytes }

abbrev pub decreases-blanks : goal.decreases-blanks
decreases-blanks l = length l.rest
