use Rattle.std.proofs.Common.{arith}
use Rattle.avr_alu.proofs.StatusTables.{signs_are_flags}
use Rattle.avr_alu.proofs.status.with_signs.Goals as goal

pub returns : goal.returns
returns c = signs_are_flags c.args.sreg c.args.value (omega arith) (omega arith)
