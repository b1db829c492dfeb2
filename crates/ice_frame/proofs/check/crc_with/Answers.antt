use Rattle.std.proofs.Common.{arith}
use Rattle.ice_frame.proofs.Table.{checked_by_table}
use Rattle.ice_frame.proofs.check.crc_with.Goals as goal

pub returns : goal.returns
returns c = checked_by_table c.args.before c.args.byte c.from.result c.from-2.result (omega (arith, c.ranges.before)) (omega (arith, c.ranges.byte)) c.from.ensures c.from-2.ensures
