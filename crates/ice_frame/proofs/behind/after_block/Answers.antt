use Rattle.std.proofs.Common.{arith}
use Rattle.ice_frame.proofs.Block.{over_block}
use Rattle.ice_frame.proofs.behind.after_block.Goals as goal

pub returns : goal.returns
returns c =
    over_block c.args.register c.from.result c.from-2.result c.from-3.result c.from-4.result (omega (arith, c.ranges.register))
    c.from.ensures c.from-2.ensures c.from-3.ensures c.from-4.ensures
