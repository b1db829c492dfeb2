use Rattle.std.proofs.Common.{arith}
use Rattle.avr_alu.proofs.StatusBits.{masks_are_flags}
use Rattle.avr_alu.proofs.status.flags.Goals as goal

pub returns : goal.returns
returns c = masks_are_flags c.args.sreg (omega arith)
