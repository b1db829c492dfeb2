use Rattle.std.proofs.Common.{◌-◌, length, arith}
use Rattle.image_hex.proofs.Cutting.{without_return-last, without_return-other}
use Rattle.image_hex.proofs.line.unended.Goals as goal

pub returns-in-len1-up : goal.returns-in-len1-up
returns-in-len1-up c = without_return-last c.args.line.now (length c.args.line.now - 1) (omega
    (arith, c.in-len1-up.len_at_least)) c.if-last-eq13.true

pub returns-in_default-2 : goal.returns-in_default-2
returns-in_default-2 c = without_return-other c.args.line.now (length c.args.line.now - 1) (omega
    (arith, c.in-len1-up.len_at_least)) c.if-last-eq13.false
