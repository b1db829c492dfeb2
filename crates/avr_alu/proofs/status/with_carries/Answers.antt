use Rattle.std.proofs.Common.{arith}
use Rattle.std.proofs.Math.Nat.{mod-lt}
use Rattle.avr_alu.proofs.StatusTables.{tables_are_flags}
use Rattle.avr_alu.specs.Carries.{carry_bits}
use Rattle.avr_alu.proofs.status.with_carries.Goals as goal

pub returns : goal.returns
returns c = tables_are_flags c.args.sreg c.args.value (carry_bits c.args.carried) (omega arith) (omega arith) (mod-lt _ (omega arith))
