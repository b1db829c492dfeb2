use Rattle.std.proofs.Common.{◌-◌, length, arith}
use Rattle.avr_asm.proofs.LineCuts.{return_cut, return_none}
use Rattle.avr_asm.proofs.cuts.without_return.Goals as goal

pub returns-then-last-eq13 : goal.returns-then-last-eq13
returns-then-last-eq13 c = return_cut c.args.line.now (length c.args.line.now - 1) (omega arith) c.if-last-eq13.true

pub returns-else-last-eq13 : goal.returns-else-last-eq13
returns-else-last-eq13 c = return_none c.args.line.now (length c.args.line.now - 1) (omega arith) c.if-last-eq13.false
