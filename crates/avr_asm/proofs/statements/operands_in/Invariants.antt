use Rattle.std.proofs.Common.{length, map, take}
use Rattle.asm_spec.specs.Tokens.{trimmed}
use Rattle.avr_asm.specs.Statements.{AreFew}
use Rattle.avr_asm.proofs.Commas.{pieces_of}
use Rattle.avr_asm.proofs.statements.operands_in.Given as goal

abbrev pub invariant-pieces : goal.invariant-pieces
invariant-pieces l = record { few : AreFew l.few (map trimmed (take (length l.yielded) (pieces_of l.fn.bytes))) }
