use Rattle.std.proofs.Common.{arith}
use Rattle.avr_alu.proofs.StatusBits.{halved_byte}
use Rattle.avr_alu.proofs.shifts.halved.Goals as goal

pub returns : goal.returns
returns c = halved_byte c.args.top c.args.a (omega arith)
